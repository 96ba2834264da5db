use Rattle.std.proofs.Common.{◌≡◌, ◌+◌, ◌-◌, ◌<◌, ◌≤◌, ℕ, length, sym, ap, ap₂, ◌∙◌, arith}
use Rattle.mb_fire.specs.declared.due.Due.{Due}
use Rattle.mb_fire.specs.declared.place.BlockPlace.{BlockPlace}
use Rattle.mb_fire.specs.declared.place.Place.{Place}
use Rattle.mb_fire.specs.Under.{left_in, to_come, behind_quadlet, due_by, notes_behind}
use Rattle.mb_fire.proofs.PassedLemmas.{at_place, within, carried-whole, carried-part}
use Rattle.mb_fire.proofs.under.Packets.pass_carried.Goals as goal
use Rattle.mb_fire.proofs.under.Packets.pass_carried.Goals.{else-next-eq0-via-then-next-eq0+else-next-eq0-2}
use Rattle.mb_fire.proofs.under.Packets.pass_carried.Goals.{else-next-eq0-via-else-next-eq0}

pub returns-then-next-eq0-2 : goal.returns-then-next-eq0-2
returns-then-next-eq0-2 c =
    let p = c.args.self.now in
    let bytes = c.args.bytes.now in
    let place = c.in-Within.place in
    let end : ℕ = p.offset + length bytes in
    let next = c.behind_carried-next.ensures in
    let none : place.left - length bytes ≡ 0 =
    omega (arith, ap (λ (k : BlockPlace). k.left) next, c.if-next-eq0.true) in
    let over : place.skip ≡ 0 = omega (arith, ap (λ (k : BlockPlace). k.skip) next, c.if-next-eq0-2.true) in
    ap₂ (λ (u : Place) (d : Due). at_place end u p.under.expected d) (c.behind_quadlet-self.ensures
    ∙ ap behind_quadlet next)
    (c.due_behind-self.ensures ∙ ap (λ (k : BlockPlace). due_by (notes_behind k (end - 1))) next) ∙
    carried-whole p place bytes c.in-Within.is (sym c.is_empty.ensures ∙ c.if-is_empty.false)
    (omega (arith, c.requires.few, ap left_in c.in-Within.is)) none over

pub returns-else-next-eq0 : goal.returns-else-next-eq0
returns-else-next-eq0 c =
    let p = c.args.self.now in
    let bytes = c.args.bytes.now in
    let place = c.in-Within.place in
    let next = c.behind_carried-next.ensures in
    let left = ap (λ (k : BlockPlace). k.left) next in
    let skip = ap (λ (k : BlockPlace). k.skip) next in
    let fits : length bytes ≤ place.left = omega (arith, c.requires.few, ap left_in c.in-Within.is) in
    let more : length bytes < to_come place =
    elim c.else-next-eq0.branch as (λ _. length bytes < to_come place) [
      | else-next-eq0-via-then-next-eq0+else-next-eq0-2 w ↦ omega (arith, skip, fits, w.if-next-eq0-2.false)
      | else-next-eq0-via-else-next-eq0 w ↦ omega (arith, left, fits, w.if-next-eq0.false)
    ] in
    ap (λ (k : BlockPlace). within (p.offset + length bytes) k p.under.expected) next ∙
    carried-part p place bytes c.in-Within.is (sym c.is_empty.ensures ∙ c.if-is_empty.false) fits more
