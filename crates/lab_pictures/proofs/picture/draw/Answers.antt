use Rattle.std.proofs.Common.{IfSome, refl, subst}
use Rattle.std.proofs.lemmas.Option.{IfSome_then}
use Rattle.lab_pictures.specs.Private.Drawn.{IsPictureOf}
use Rattle.lab_pictures.proofs.picture.draw.Goals as goal

pub picture_of-picture-requires : goal.picture_of-picture-requires
picture_of-picture-requires g c = record { whole = c.in_ok-visited.ensures.whole refl }

pub returns : goal.returns
returns g c =
    let picture = c.in_ok-picture.field-0 in
    let drawn = subst (λ w. IfSome picture (IsPictureOf w)) c.in_ok-visited.ensures.start c.in_ok-picture.ensures.picture in
    record {
      nodes = IfSome_then picture drawn (λ x p. p.nodes);
      arrows = IfSome_then picture drawn (λ x p. p.arrows);
      begins = IfSome_then picture drawn (λ x p. p.begins);
      all = IfSome_then picture drawn (λ x p. p.steps);
      fewest = IfSome_then picture drawn (λ x p. p.fewest);
      ends = IfSome_then picture drawn (λ x p. p.ends);
      at_rest = IfSome_then picture drawn (λ x p. p.at_rest);
      few = IfSome_then picture drawn (λ x p. p.few);
    }
