use Rattle.std.proofs.Common.{◌∷◌, [], ◌∙◌, sym, true, false}
use Rattle.mb_rig.proofs.LineLemmas.{says, cons}
use Rattle.mb_rig.proofs.line.read_line.Goals as goal

pub returns-then-not-is_printed : goal.returns-then-not-is_printed
returns-then-not-is_printed c =
    sym (says c.args.line.now c.in-Some.first.now _ false c.in-Some.ensures.some
    (sym c.begins_hash.ensures ∙ c.if-begins_hash.false) (sym c.is_printed.ensures ∙ c.if-not-is_printed.true))

pub returns-in_default-next_word-3 : goal.returns-in_default-next_word-3
returns-in_default-next_word-3 c =
    c.read_route.ensures ∙
    sym (says c.args.line.now c.in-Some.first.now (c.in-Some-next_word.one.now ∷ c.in-Some-next_word-2.two.now ∷ [])
    true (c.in-Some.ensures.some ∙ cons _ (c.in-Some-next_word.ensures.some ∙ cons _
    (c.in-Some-next_word-2.ensures.some ∙ cons _ c.in_default-next_word-3.ensures.none)))
    (sym c.begins_hash.ensures ∙ c.if-begins_hash.false) (sym c.is_printed.ensures ∙ c.if-not-is_printed.false))

pub returns-in_default-next_word-4 : goal.returns-in_default-next_word-4
returns-in_default-next_word-4 c =
    c.read_port.ensures ∙
    sym (says c.args.line.now c.in-Some.first.now
    (c.in-Some-next_word.one.now ∷ c.in-Some-next_word-2.two.now ∷ c.in-Some-next_word-3.three.now ∷ []) true
    (c.in-Some.ensures.some ∙ cons _ (c.in-Some-next_word.ensures.some ∙ cons _ (c.in-Some-next_word-2.ensures.some ∙
    cons _ (c.in-Some-next_word-3.ensures.some ∙ cons _ c.in_default-next_word-4.ensures.none))))
    (sym c.begins_hash.ensures ∙ c.if-begins_hash.false) (sym c.is_printed.ensures ∙ c.if-not-is_printed.false))

pub returns-in-None : goal.returns-in-None
returns-in-None c =
    c.read_tracked.ensures ∙
    sym (says c.args.line.now c.in-Some.first.now
    (c.in-Some-next_word.one.now ∷ c.in-Some-next_word-2.two.now ∷ c.in-Some-next_word-3.three.now ∷
    c.in-Some-next_word-4.four.now ∷ []) true
    (c.in-Some.ensures.some ∙ cons _ (c.in-Some-next_word.ensures.some ∙ cons _ (c.in-Some-next_word-2.ensures.some ∙
    cons _ (c.in-Some-next_word-3.ensures.some ∙ cons _ (c.in-Some-next_word-4.ensures.some ∙
    cons _ c.in-None.ensures.none)))))
    (sym c.begins_hash.ensures ∙ c.if-begins_hash.false) (sym c.is_printed.ensures ∙ c.if-not-is_printed.false))
