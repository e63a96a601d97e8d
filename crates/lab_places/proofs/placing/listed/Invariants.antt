use Rattle.std.proofs.Common.{◌≡◌, take}
use Rattle.lab_places.specs.Placed.{listed}
use Rattle.lab_places.proofs.placing.listed.Given as goal

-- the sources so far are those of the listings so far
abbrev pub invariant-loop-listing : goal.invariant-loop-listing
invariant-loop-listing l = l.found.items ≡ listed (take l.listing-index l.listings)
