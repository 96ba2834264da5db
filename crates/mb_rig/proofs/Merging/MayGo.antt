-- A mark that the router lets pass may go to its outs.
use Rattle.std.proofs.Common.{◌≡◌, ◌≢◌, ⊎_elim, ℕ, Bool, true, false, length, get_or, refl, ap, sym, ◌∙◌}
use Rattle.std.specs.Prelude.{not, ◌&&◌}
use Rattle.mb_message.specs.Bytes.{is_data}
use Rattle.mb_message.specs.Signs.{sign_of, suits_sign}
use Rattle.mb_message.specs.declared.mark.Mark.{Mark}
use Rattle.mb_message.specs.declared.mark.Mark.TheVariants.{Short, Rt, Open, Byte, End, Abort}
use Rattle.mb_merge.specs.Links.{Merger, link_of, is_owned}
use Rattle.mb_merge.specs.Passing.{may_pass}
use Rattle.mb_merge.specs.Calls.{IsExclusive}
use Rattle.mb_merge.proofs.LinkLemmas.{is_owned_below-hit, takes_from_is, share-at, one_owner, and-true}
use Rattle.mb_rig.specs.Merging.Tags.{Tag}
use Rattle.mb_rig.specs.Merging.Heard.{MayGo}
use Rattle.mb_rig.proofs.Merging.Lateness.{true≢false, same_or_not}
use Rattle.mb_rig.proofs.Merging.RouterEvents.{open_within}

abbrev pub goes_by : Merger → ℕ → ℕ → Bool
goes_by m o source = get_or (link_of m source).outs o false

abbrev pub opened_by : Merger → ℕ → Bool
opened_by m source = (link_of m source).is_open

no_not : (b : Bool) → not b ≡ true → b ≡ false
no_not true e = absurd (true≢false (sym e))
no_not false e = refl

and_front : (a b : Bool) → (a && b) ≡ true → a ≡ true
and_front true b e = refl
and_front false b e = absurd (true≢false (sym e))

-- two open sources of one out are one
pub one_open : (m : Merger) → IsExclusive m.links → (o s u : ℕ) → opened_by m s ≡ true → opened_by m u ≡ true →
    goes_by m o s ≡ true → goes_by m o u ≡ true → s ≡ u
one_open m alone o s u open_s open_u goes_s goes_u =
    one_owner m.links o s u alone (open_within m.links s open_s) (open_within m.links u open_u)
    (and-true _ _ open_s goes_s) (and-true _ _ open_u goes_u)

pub may-go : (m : Merger) (t : Tag) (mark : Mark) → sign_of mark ≡ t.sign → may_pass m.links t.source mark ≡ true →
    suits_sign (opened_by m t.source) (sign_of mark) ≡ true → MayGo (goes_by m) (opened_by m) t
may-go m t mark is may fits = record {
  outside = λ e. out_by mark may fits (ap (suits_sign true) is ∙ e);
  inside = λ e. in_by mark fits (ap (suits_sign false) is ∙ e);
}
  where
    owned_not : (o x : ℕ) → is_owned m.links t.source ≡ false → opened_by m t.source ≡ false →
        goes_by m o t.source ≡ true → goes_by m o x ≡ true → opened_by m x ≡ true → ⊥
    owned_not o x free closed here there open_x = ⊎_elim
        (λ (same : x ≡ t.source). true≢false (sym open_x ∙ (ap (opened_by m) same ∙ closed)))
        (λ (apart : x ≢ t.source). true≢false (sym (is_owned_below-hit m.links t.source x (length m.links)
        (open_within m.links x open_x)
        (takes_from_is m.links t.source x apart (and-true _ _ open_x
        (share-at o (link_of m x).outs (link_of m t.source).outs there here)))) ∙ free))
        (same_or_not x t.source)

    out_by : (mark : Mark) → may_pass m.links t.source mark ≡ true → suits_sign (opened_by m t.source)
        (sign_of mark) ≡ true → suits_sign true (sign_of mark) ≡ false →
        (opened_by m t.source ≡ false) × ((o s : ℕ) → goes_by m o t.source ≡ true → goes_by m o s ≡ true →
        opened_by m s ≡ true → ⊥)
    out_by (Short s) may fits e = (no_not _ fits, λ o x. owned_not o x (no_not _ may) (no_not _ fits))
    out_by (Rt r) may fits e = absurd (true≢false e)
    out_by Open may fits e = (no_not _ fits, λ o x. owned_not o x (no_not _ may) (no_not _ fits))
    out_by (Byte b) may fits e = absurd (true≢false (sym (second (opened_by m t.source) (is_data b) fits) ∙ e))
      where
        second : (a c : Bool) → (a && c) ≡ true → c ≡ true
        second true c f = f
        second false c f = absurd (true≢false (sym f))
    out_by End may fits e = absurd (true≢false e)
    out_by Abort may fits e = absurd (true≢false e)

    in_by : (mark : Mark) → suits_sign (opened_by m t.source) (sign_of mark) ≡ true →
        suits_sign false (sign_of mark) ≡ false → opened_by m t.source ≡ true
    in_by (Short s) fits e = absurd (true≢false e)
    in_by (Rt r) fits e = absurd (true≢false e)
    in_by Open fits e = absurd (true≢false e)
    in_by (Byte b) fits e = and_front (opened_by m t.source) (is_data b) fits
    in_by End fits e = fits
    in_by Abort fits e = fits
