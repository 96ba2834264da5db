-- Where the open SysEx of a source began, one more mark having passed.
use Rattle.std.proofs.Common.{◌≡◌, ◌≢◌, ◌⊎◌, inl, inr, ℕ, Bool, true, false, List, [], ◌∷◌, ◌++◌}
use Rattle.std.proofs.Common.{map}
use Rattle.std.proofs.Common.{filter, refl, ap, sym, ◌∙◌, arith, append-nil}
use Rattle.std.specs.Prelude.{not, ◌&&◌, ◌==◌, if◌then◌else◌}
use Rattle.std.proofs.lemmas.Bool.Decides.{nat_tests}
use Rattle.std.proofs.lemmas.List.Elements.{filter-append}
use Rattle.mb_message.specs.declared.mark.Mark.{Mark}
use Rattle.mb_message.specs.declared.mark.Mark.TheVariants.{Short, Rt, Open, Byte, End, Abort}
use Rattle.mb_message.specs.Signs.{Sign, sign_of, suits_sign, ShortSign, RtSign, OpenSign, ByteSign, EndSign, AbortSign}
use Rattle.mb_merge.specs.Passing.{opens}
use Rattle.mb_rig.specs.Merging.Lines.{Key, no_key}
use Rattle.mb_rig.specs.Merging.Tags.{Tag, IsTag}
use Rattle.mb_rig.specs.Merging.Playing.{PassedTag, Play, begin_at, begin_behind, begin_of, begin_then}
use Rattle.mb_rig.specs.Merging.Tags.{is_realtime_sign}
use Rattle.mb_rig.specs.Merging.Playing.{tag_in_turn}
use Rattle.mb_rig.specs.Merging.Playing.{tags_passed}
use Rattle.mb_rig.specs.Merging.Unstalled.{OwnFits}
use Rattle.mb_rig.proofs.Merging.Lateness.{true≢false}
use Rattle.mb_rig.proofs.Merging.PlaySteps.{passed-push}
use Rattle.mb_rig.proofs.Merging.SourceLines.{filter-cons}
use Rattle.mb_rig.proofs.Merging.PlaceSteps.{tag_at-own}

-- where the open SysEx of a source began, one more mark having passed

turn-own : (t : Tag) → tag_in_turn t.source t ≡ not (is_realtime_sign t.sign)
turn-own t = ap (λ c. c && not (is_realtime_sign t.sign)) (self t.source)
  where
    self : (a : ℕ) → (a == a) ≡ true
    self a = grind (arith, nat_tests)

turn-other : (x : ℕ) (t : Tag) → x ≢ t.source → tag_in_turn x t ≡ false
turn-other x t apart = ap (λ c. c && not (is_realtime_sign t.sign)) (differ t.source x (λ e. apart (sym e)))
  where
    differ : (a b : ℕ) → a ≢ b → (a == b) ≡ false
    differ a b e = grind (arith, nat_tests, e)

begin-push : (begin : Key) (ts : List Tag) (t : Tag) → begin_behind begin (ts ++ t ∷ []) ≡ begin_then
    (begin_behind begin ts) t
begin-push begin [] t = refl
begin-push begin (u ∷ us) t = begin-push (begin_then begin u) us t

turns-push : (x : ℕ) (ts : List Tag) (t : Tag) (c : Bool) → tag_in_turn x t ≡ c →
    filter (tag_in_turn x) (ts ++ t ∷ []) ≡ filter (tag_in_turn x) ts ++ (if c then t ∷ [] else [])
turns-push x ts t c e = filter-append (tag_in_turn x) ts (t ∷ []) ∙ ap (λ us. filter (tag_in_turn x) ts ++ us)
    (filter-cons (tag_in_turn x) t [] c e)

pub begin-other : (play : Play) (t : Tag) (moment : ℕ) (x : ℕ) → x ≢ t.source →
    begin_behind (no_key x) (filter (tag_in_turn x) (map (λ (y : PassedTag). y.tag)
    (play.passed ++ (record { tag = t; moment = moment }) ∷ [])))
    ≡ begin_of play x
begin-other play t moment x apart = ap (λ ts. begin_behind (no_key x) (filter (tag_in_turn x) ts))
    (passed-push play t moment)
    ∙ (ap (begin_behind (no_key x)) (turns-push x (tags_passed play) t false (turn-other x t apart))
    ∙ ap (begin_behind (no_key x)) (append-nil (filter (tag_in_turn x) (tags_passed play))))

pub begin-own : (play : Play) (t : Tag) (moment : ℕ) →
    begin_behind (no_key t.source) (filter (tag_in_turn t.source)
    (map (λ (y : PassedTag). y.tag) (play.passed ++ (record { tag = t; moment = moment }) ∷ [])))
    ≡ begin_at (begin_of play t.source) t.key t.sign
begin-own play t moment = ap (λ ts. begin_behind (no_key t.source) (filter (tag_in_turn t.source) ts))
    (passed-push play t moment)
    ∙ by_kind (is_realtime_sign t.sign) refl
  where
    silent : (begin key : Key) (m : Sign) → is_realtime_sign m ≡ true → begin_at begin key m ≡ begin
    silent begin key OpenSign e = absurd (true≢false (sym e))
    silent begin key (ShortSign s a b) e = refl
    silent begin key (RtSign b) e = refl
    silent begin key (ByteSign b) e = refl
    silent begin key EndSign e = refl
    silent begin key AbortSign e = refl

    by_kind : (rt : Bool) → is_realtime_sign t.sign ≡ rt →
        begin_behind (no_key t.source) (filter (tag_in_turn t.source) (tags_passed play ++ t ∷ [])) ≡ begin_at
        (begin_of play t.source) t.key t.sign
    by_kind true e = ap (begin_behind (no_key t.source))
        (turns-push t.source (tags_passed play) t false (turn-own t ∙ ap not e))
        ∙ (ap (begin_behind (no_key t.source)) (append-nil (filter (tag_in_turn t.source) (tags_passed play)))
        ∙ sym (silent (begin_of play t.source) t.key t.sign e))
    by_kind false e = ap (begin_behind (no_key t.source))
        (turns-push t.source (tags_passed play) t true (turn-own t ∙ ap not e))
        ∙ begin-push (no_key t.source) (filter (tag_in_turn t.source) (tags_passed play)) t

-- a mark opens a SysEx, or one is open already and stays the same
pub begins-or-stays : (b : Bool) (mark : Mark) (m : Sign) (begin key : Key) → sign_of mark ≡ m → opens b mark ≡ true →
    ((b ≡ true) × (begin_at begin key m ≡ begin)) ⊎ (begin_at begin key m ≡ key)
begins-or-stays b (Short x) m begin key is e = inl (e, ap (begin_at begin key) (sym is))
begins-or-stays b (Rt x) m begin key is e = inl (e, ap (begin_at begin key) (sym is))
begins-or-stays b Open m begin key is e = inr (ap (begin_at begin key) (sym is))
begins-or-stays b (Byte x) m begin key is e = inl (e, ap (begin_at begin key) (sym is))
begins-or-stays b End m begin key is e = absurd (true≢false (sym e))
begins-or-stays b Abort m begin key is e = absurd (true≢false (sym e))

-- inside an open SysEx none begins
pub stays-open : (b : Bool) (mark : Mark) (m : Sign) (begin key : Key) → sign_of mark ≡ m → b ≡ true →
    suits_sign b (sign_of mark) ≡ true → begin_at begin key m ≡ begin
stays-open b (Short x) m begin key is was fit = ap (begin_at begin key) (sym is)
stays-open b (Rt x) m begin key is was fit = ap (begin_at begin key) (sym is)
stays-open b Open m begin key is was fit = absurd (true≢false (sym fit ∙ ap not was))
stays-open b (Byte x) m begin key is was fit = ap (begin_at begin key) (sym is)
stays-open b End m begin key is was fit = ap (begin_at begin key) (sym is)
stays-open b Abort m begin key is was fit = ap (begin_at begin key) (sym is)

pub tag-own : (t : Tag) → IsTag t → OwnFits t
tag-own t is l e = tag_at-own t.source is.under t.key t.sign is.link is.begun l
    (ap (λ (x : Tag). x.line) (sym is.is) ∙ e)
