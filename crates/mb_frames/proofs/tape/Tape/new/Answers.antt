use Rattle.std.proofs.Common.{◌≡◌, ℕ, List, [], sym, subst, false}
use Rattle.mb_frames.specs.TapeReading.{TapeStands}
use Rattle.mb_frames.specs.declared.tape.Place.TheVariants as place
use Rattle.mb_frames.proofs.TapeLiteral.{fresh-stands}
use Rattle.mb_frames.proofs.tape.Tape.new.Goals as goal

pub returns-clause-stands : goal.returns-clause-stands
returns-clause-stands c =
    let none : c.new.result.items ≡ [] = cc (c.new.ensures) in
    subst (λ (head : List ℕ).
    TapeStands (record { place = place.Magic; head = head; second = false; last = 0; track = 0 }) [] []) (sym none)
    fresh-stands
