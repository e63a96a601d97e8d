-- Bodies, taken off the bytes that come.
use Rattle.std.proofs.Common.{◌≡◌, ℕ, ◌<◌, ◌≤◌, ◌+◌, ◌-◌, List, [], ◌++◌, length, take, drop, Option, Some, None, refl, sym, ap, ◌∙◌, arith}
use Rattle.std.specs.Prelude.{⊤, nat_lt, IfSome, Bool, true, false}
use Rattle.std.specs.Io.KnownBytes.{Consumes, IsAtEnd}
use Rattle.std.proofs.KnownBytes.{Consumes-trans}
use Rattle.std.proofs.lemmas.List.{length-append, take_at, drop_at}
use Rattle.std.proofs.lemmas.Bool.Decides.{nat_tests}
use Rattle.lab_frames.specs.Frames.{Begun, cut, body, large, body_limit, body_of, frame}
use Rattle.lab_frames.specs.Taking.{TakesFrame, Stops}
use Rattle.lab_frames.specs.Private.Parts.{TakesHeader, BodyStops}
use Rattle.lab_frames.specs.declared.reading.Frame.TheVariants.{TooLarge}
use Rattle.lab_frames.specs.declared.reading.FrameFault.TheVariants.{Read, BadHeader, CutShort, NoMemory}
use Rattle.lab_frames.specs.declared.reading.FrameFault.{FrameFault}

whole : (n : ℕ) (part rest : List ℕ) → length part ≡ n → nat_lt (length (part ++ rest)) n ≡ false
whole n part rest same = grind (arith, nat_tests, same, length-append part rest)

-- a body that is kept
pub body_of-kept : (n : ℕ) (part rest : List ℕ) → length part ≡ n → n ≤ body_limit → body_of n (part ++ rest) ≡ body part rest
body_of-kept n part rest same small =
    let fits : nat_lt body_limit n ≡ false = grind (arith, nat_tests, small) in
    rw (whole n part rest same, fits, take_at part rest n same, drop_at part rest n same) refl

-- one that is too large
pub body_of-large : (n : ℕ) (part rest : List ℕ) → length part ≡ n → body_limit < n → body_of n (part ++ rest) ≡ large rest
body_of-large n part rest same big =
    let over : nat_lt body_limit n ≡ true = grind (arith, nat_tests, big) in
    rw (whole n part rest same, over, drop_at part rest n same) refl

pub body_of-cut : (n : ℕ) (rest : List ℕ) → length rest < n → body_of n rest ≡ cut
body_of-cut n rest few =
    let short : nat_lt (length rest) n ≡ true = grind (arith, nat_tests, few) in
    rw short refl

-- too few bytes came after some of them
pub fewer : (start now : Option (List ℕ)) (part : List ℕ) (left count : ℕ) → Consumes start now part → length part + left ≡ count
    → IfSome now (λ bytes. length bytes < left) → IfSome start (λ bytes. length bytes < count)
fewer None now part left count p same few = tt
fewer (Some bytes) None part left count p same few = absurd p
fewer (Some bytes) (Some rest) part left count p same few = let split = length-append part rest in let all = ap length p in omega (arith, few, same, split, all)

pub none_left : (now next : Option (List ℕ)) (left : ℕ) → Consumes now next [] → IsAtEnd next → 0 < left → IfSome now (λ bytes. length bytes < left)
none_left None next left p e some = tt
none_left (Some bytes) None left p e some = absurd p
none_left (Some bytes) (Some rest) left p e some = let all = ap length p in let none = ap length e in omega (arith, all, none, some)

-- the smaller part that was asked for
pub fewer_of : (now : Option (List ℕ)) (few left : ℕ) → few ≤ left → IfSome now (λ bytes. length bytes < few) → IfSome now (λ bytes. length bytes < left)
fewer_of None few left le h = tt
fewer_of (Some bytes) few left le h = omega (arith, le, h)

pub Stops-part : (e : FrameFault) (start now : Option (List ℕ)) (failed : Bool) (part : List ℕ) (few left count : ℕ) → Consumes start now part → length part + left ≡ count → few ≤ left
    → BodyStops few e now failed → BodyStops count e start failed
Stops-part Read start now failed part few left count p same le h = h
Stops-part BadHeader start now failed part few left count p same le h = h
Stops-part NoMemory start now failed part few left count p same le h = tt
Stops-part CutShort start now failed part few left count p same le h = fewer start now part left count p same (fewer_of now few left le h)

-- a body behind its header lines
pub Stops-body : (e : FrameFault) (start now : Option (List ℕ)) (failed : Bool) (n : ℕ) → TakesHeader start now (Some n) → BodyStops n e now failed → Stops e start failed
Stops-body Read start now failed n t h = h
Stops-body BadHeader start now failed n t h = absurd h
Stops-body NoMemory start now failed n t h = tt
Stops-body CutShort None now failed n t h = tt
Stops-body CutShort (Some bytes) None failed n t h = absurd t
Stops-body CutShort (Some bytes) (Some rest) failed n t h = t ∙ body_of-cut n rest h

pub Takes-large : (start now next : Option (List ℕ)) (n : ℕ) (part : List ℕ) → TakesHeader start now (Some n) → Consumes now next part → length part ≡ n → body_limit < n → TakesFrame start next TooLarge
Takes-large None now next n part t p same big = tt
Takes-large (Some bytes) None next n part t p same big = absurd t
Takes-large (Some bytes) (Some rest) None n part t p same big = absurd p
Takes-large (Some bytes) (Some rest) (Some after) n part t p same big = t ∙ ap (body_of n) p ∙ body_of-large n part after same big
