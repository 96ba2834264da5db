use Rattle.std.proofs.Common.{set, min, arith, ◌≡◌, ◌∙◌, ◌-◌, ap, refl, sym, subst, length}
use Rattle.std.proofs.Common.{take, drop, ℕ, List, Some, true}
use Rattle.std.proofs.lemmas.Grind.{common_steps}
use Rattle.std.proofs.lemmas.Option.{slice_get_within}
use Rattle.mb_outside.specs.Contents.{Contents, after_read, is_readable}
use Rattle.mb_outside.specs.Place.{Place, moved_on}
use Rattle.mb_outside.specs.MemoryDesk.{told, contents_of, left_at, MemoryState}
use Rattle.mb_outside.proofs.PlaceLemmas.{get_or-slice_get, left_shown}
use Rattle.mb_outside.proofs.ToldLemmas.{gives, told-read, told-read_handle, readable_place, left-place}
use Rattle.mb_outside.proofs.memory_desk.MemoryDeskDesk.read.Goals as goal

pub index_mut-given-requires : goal.index_mut-given-requires
index_mut-given-requires c =
    let i = c.self.inside in
    let before = told i.files.items i.input.items i.at i.places.items i.log.items in
    let same : before ≡ contents_of c.args.self.now
    = ap contents_of (c.self.view_is ∙ c.is_to_fail.ensures.counted) in
    let readable : is_readable before c.args.h ≡ true
    = subst (λ (x : Contents). is_readable x c.args.h ≡ true) (sym same) c.requires in
    let place
    = readable_place i.files.items i.input.items i.at i.places.items i.log.items c.args.h readable c.if-h-eq0.false in
    let within = slice_get_within i.places.items (c.args.h - 3) place.1.0 place.1.1 in
    grind (arith, common_steps)

pub returns-then-h-eq0-clause-contents : goal.returns-then-h-eq0-clause-contents
returns-then-h-eq0-clause-contents c =
    let i = c.self.inside in
    let before = told i.files.items i.input.items i.at i.places.items i.log.items in
    let same : before ≡ contents_of c.args.self.now
    = ap contents_of (c.self.view_is ∙ c.is_to_fail.ensures.counted) in
    let zero : c.args.h ≡ 0 = c.if-h-eq0.true in
    let left : c.rest.result.now ≡ drop i.at i.input.items
    = c.rest.ensures.value ∙ ap (drop i.at) c.deref.ensures.value in
    rw (zero, ← same) (gives before _ 0 c.give-count.result i.piece (drop i.at i.input.items) c.give-count.new.buffer
    (told-read i.files.items i.input.items i.at c.give-count.result i.places.items i.log.items) refl
    (grind (arith, common_steps)) c.self.invariant.3 (c.give-count.ensures.bytes ∙ ap (take c.give-count.result) left))

pub returns-clause-count : goal.returns-clause-count
returns-clause-count c =
    let i = c.self.inside in
    let before = told i.files.items i.input.items i.at i.places.items i.log.items in
    let called = c.self.view_is ∙ c.is_to_fail.ensures.counted in
    let same : before ≡ contents_of c.args.self.now = ap contents_of called in
    let readable : is_readable before c.args.h ≡ true
    = subst (λ (x : Contents). is_readable x c.args.h ≡ true) (sym same) c.requires in
    let place
    = readable_place i.files.items i.input.items i.at i.places.items i.log.items c.args.h readable c.if-h-eq0.false in
    let p = place.1.0 in
    let shown = c.index_mut-given.result.now in
    let is : shown ≡ p
    = c.index_mut-given.ensures.value ∙ get_or-slice_get i.places.items (c.args.h - 3) p shown place.1.1 in
    let left : left_at c.deref-2.result.now (Some shown) ≡ (contents_of c.args.self.now).left c.args.h
    = left_shown i.files.items c.deref-2.result.now p shown c.deref-2.ensures.value is
    ∙ (sym (left-place i.files.items i.input.items i.at i.places.items i.log.items c.args.h p place.0 place.1.1)
    ∙ ap (λ (x : Contents). x.left c.args.h) same) in
    let size = length c.args.buf.now in
    c.read.ensures.count
    ∙ (ap (λ (x : List ℕ). min (min (length x) size) i.piece) left
    ∙ ap (λ (m : MemoryState). min (min (length ((contents_of c.args.self.now).left c.args.h)) size) m.piece) called)

pub returns-clause-contents : goal.returns-clause-contents
returns-clause-contents c =
    let i = c.self.inside in
    let before = told i.files.items i.input.items i.at i.places.items i.log.items in
    let same : before ≡ contents_of c.args.self.now
    = ap contents_of (c.self.view_is ∙ c.is_to_fail.ensures.counted) in
    let readable : is_readable before c.args.h ≡ true
    = subst (λ (x : Contents). is_readable x c.args.h ≡ true) (sym same) c.requires in
    let place
    = readable_place i.files.items i.input.items i.at i.places.items i.log.items c.args.h readable c.if-h-eq0.false in
    let p = place.1.0 in
    let shown = c.index_mut-given.result.now in
    let is : shown ≡ p
    = c.index_mut-given.ensures.value ∙ get_or-slice_get i.places.items (c.args.h - 3) p shown place.1.1 in
    let left : left_at c.deref-2.result.now (Some shown) ≡ left_at i.files.items (Some p)
    = left_shown i.files.items c.deref-2.result.now p shown c.deref-2.ensures.value is in
    let n = c.read.result in
    let left_before
    = left-place i.files.items i.input.items i.at i.places.items i.log.items c.args.h p place.0 place.1.1 in
    let size : length c.read.new.buffer ≡ length c.args.buf.now = c.read.ensures.length in
    gives (contents_of c.args.self.now) _ c.args.h n i.piece (left_at i.files.items (Some p)) c.read.new.buffer
    (ap (λ (q : Place). told i.files.items i.input.items i.at (set i.places.items (c.args.h - 3) q) i.log.items)
    (c.read.ensures.moves ∙ ap (moved_on n) is)
    ∙ (told-read_handle i.files.items i.input.items i.at n i.places.items i.log.items c.args.h p place.0 place.1.1
    ∙ ap (after_read c.args.h n) same))
    (ap (λ (x : Contents). x.left c.args.h) (sym same) ∙ left_before)
    (c.read.ensures.count ∙ (ap (λ (x : List ℕ). min (min (length x) (length c.args.buf.now)) i.piece) left
    ∙ ap (λ (k : ℕ). min (min (length (left_at i.files.items (Some p))) k) i.piece) (sym size)))
    c.self.invariant.3
    (c.read.ensures.bytes ∙ ap (take n) left)
