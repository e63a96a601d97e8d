use Rattle.std.proofs.Common.{◌∙◌, ◌∷◌, [], ap, map}
use Rattle.std.proofs.lemmas.List.{map-append}
use Rattle.lab_states.specs.Private.Outputs.{joined}
use Rattle.lab_states.proofs.PieceLemmas.{joined_less}
use Rattle.lab_states.proofs.outputs.joined.Goals as goal

pub loop-piece-preserved : goal.loop-piece-preserved
loop-piece-preserved c =
    joined_less (map (λ p. p.now) c.loop-piece.path.items) (map (λ p. p.now) c.pop.new.self.items) c.in-Some.piece.now c.loop-piece.bytes.items c.extend_from_slice.new.self.items
    (joined (map (λ p. p.now) c.args.path.items)) (ap (map (λ p. p.now)) c.in-Some.ensures.items ∙ map-append (λ p. p.now) c.pop.new.self.items (c.in-Some.piece ∷ []))
    c.loop-piece.invariant c.in_ok-extend_from_slice.ensures.items
