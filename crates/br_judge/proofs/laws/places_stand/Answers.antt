use Rattle.std.proofs.Common.{◌≡◌, ◌≢◌, ◌⊎◌, inl, inr, List}
use Rattle.br_bytes.specs.declared.run.Event.{Event}
use Rattle.br_judge.specs.declared.place.Place.{Place}
use Rattle.br_judge.specs.declared.place.Place.TheVariants.{Outside}
use Rattle.br_judge.specs.Good.{BeginsGood}
use Rattle.br_judge.specs.Places.{MayFollow}
use Rattle.br_judge.specs.Steps.{At}
use Rattle.br_judge.proofs.Boots.{good-to, good-from}
use Rattle.br_judge.proofs.Ahead.{ahead, stands_after}
use Rattle.br_judge.proofs.laws.places_stand.Goals as goal

begins : (p : Place) (es : List Event) → p ≢ Outside → At p es
    → (p ≡ Outside) ⊎ ((rest : List Event) × MayFollow p rest) → BeginsGood es
begins p es inside at (inl is) = absurd (inside is)
begins p es inside at (inr (rest, m)) = (rest, (at rest).1 m)

pub returns : goal.returns
returns c = record {
  first = λ rest. (good-to rest, good-from rest);
  next = λ old new e es leads at. stands_after old new e es leads at;
  ahead = λ p es inside at. begins p es inside at (ahead p);
}
