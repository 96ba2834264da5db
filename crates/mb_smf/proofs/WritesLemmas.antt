-- A mark more is put.
use Rattle.std.proofs.Common.{◌≡◌, ℕ, ◌<◌, ◌≤◌, ◌^◌, ◌&&◌, Bool, true, false, not, nat_lt, nat_le, List, [], ◌∷◌, ◌++◌}
use Rattle.std.proofs.Common.{Option, None, refl, sym, ◌∙◌, ap, subst, arith}
use Rattle.std.specs.List.{list_all}
use Rattle.std.proofs.lemmas.Bool.{and_from, false≢true}
use Rattle.std.proofs.lemmas.Bool.Decides.{nat_tests}
use Rattle.mb_message.specs.declared.mark.Mark.{Mark}
use Rattle.mb_message.specs.declared.mark.Mark.TheVariants as mark
use Rattle.mb_message.specs.Signs.{Sign, ShortSign, RtSign, OpenSign, ByteSign, EndSign, AbortSign, sign_of, suits_sign}
use Rattle.mb_stream.specs.Denotation.{stays_open}
use Rattle.mb_stream.specs.Puts.{Put, At, Flush, last_put, signs_in}
use Rattle.mb_stream.specs.Standing.{is_open, is_valid, suited}
use Rattle.mb_stream.proofs.StandingLemmas.{Suited, Suited-append, Suited-from_suited, is_open-from, is_open-push}
use Rattle.mb_stream.proofs.StandingLemmas.{open_after, suited-from_Suited}
use Rattle.mb_smf.specs.SmfWritten.{comes_late, data_behind, event_by, is_gap, is_too_long, last_event}
use Rattle.mb_smf.specs.SmfWritten.{moments_rise, none_late_from, so_far_from}
use Rattle.mb_smf.specs.TrackWriting.{TrackWrites, TrackWriting, nothing_written, put_behind}
use Rattle.mb_smf.proofs.EventLemmas.{and-first, and-second}
use Rattle.mb_smf.proofs.WritingLemmas.{last-append, spells-nothing, spells-put}

signs-push : (m : ℕ) (s : Sign) (ps : List Put) → signs_in (ps ++ At m s ∷ []) ≡ signs_in ps ++ s ∷ []
signs-push m s [] = refl
signs-push m s (At n r ∷ ps) = ap (λ z. r ∷ z) (signs-push m s ps)
signs-push m s (Flush ∷ ps) = signs-push m s ps

last-push : (l m : ℕ) (s : Sign) (ps : List Put) → last_put l (ps ++ At m s ∷ []) ≡ m
last-push l m s [] = refl
last-push l m s (At n r ∷ ps) = last-push n m s ps
last-push l m s (Flush ∷ ps) = last-push l m s ps

not-lower : (a b : ℕ) → a ≤ b → nat_le a b ≡ true
not-lower a b h = grind (arith, nat_tests)

is-lower : (a b : ℕ) → a < b → nat_lt a b ≡ true
is-lower a b h = grind (arith, nat_tests)

rise-push : (l m : ℕ) (s : Sign) (ps : List Put) → moments_rise l ps ≡ true → last_put l ps ≤ m → m < 2 ^ 64 →
    moments_rise l (ps ++ At m s ∷ []) ≡ true
rise-push l m s [] rise above near = and_from _ _ (and_from _ _ (not-lower l m above) (is-lower m (2 ^ 64) near)) refl
rise-push l m s (At n r ∷ ps) rise above near =
    and_from _ _ (and-first (nat_le l n && nat_lt n (2 ^ 64)) (moments_rise n ps) rise)
    (rise-push n m s ps (and-second (nat_le l n && nat_lt n (2 ^ 64)) (moments_rise n ps) rise) above near)
rise-push l m s (Flush ∷ ps) rise above near = rise-push l m s ps rise above near

late-push : (found : Option ℕ) (ds : List ℕ) (m : ℕ) (s : Sign) (ps : List Put) →
    none_late_from found ds ps ≡ true → is_gap (last_event found (so_far_from ds ps)) m ≡ false →
    none_late_from found ds (ps ++ At m s ∷ []) ≡ true
late-push found ds m s [] none gap = and_from _ _ (ap not gap) refl
late-push found ds m s (At n r ∷ ps) none gap =
    let behind : Bool = none_late_from (last_event found (event_by ds n r)) (data_behind ds r) ps in
    and_from _ _ (and-first (not (is_gap found n)) behind none)
    (late-push (last_event found (event_by ds n r)) (data_behind ds r) m s ps
    (and-second (not (is_gap found n)) behind none)
    (ap (λ z. is_gap z m) (sym (last-append found (event_by ds n r) (so_far_from (data_behind ds r) ps))) ∙ gap))
late-push found ds m s (Flush ∷ ps) none gap = late-push found ds m s ps none gap

valid-push : (s : Sign) (ms : List Sign) → list_all is_valid ms ≡ true → is_valid s ≡ true →
    list_all is_valid (ms ++ s ∷ []) ≡ true
valid-push s [] valid it = and_from _ _ it refl
valid-push s (r ∷ ms) valid it =
    and_from _ _ (and-first (is_valid r) (list_all is_valid ms) valid)
    (valid-push s ms (and-second (is_valid r) (list_all is_valid ms) valid) it)

mark-valid : (x : Mark) → is_valid (sign_of x) ≡ true
mark-valid (mark.Short s) = s.valid
mark-valid (mark.Rt r) = r.valid
mark-valid mark.Open = refl
mark-valid (mark.Byte b) = refl
mark-valid mark.End = refl
mark-valid mark.Abort = refl

stays-after : (o : Bool) (s : Sign) → suits_sign o s ≡ true → stays_open o (s ∷ []) ≡ open_after o s
stays-after false (ShortSign s a b) su = refl
stays-after true (ShortSign s a b) su = absurd (false≢true su)
stays-after o (RtSign b) su = refl
stays-after o OpenSign su = refl
stays-after true (ByteSign b) su = refl
stays-after false (ByteSign b) su = absurd (false≢true su)
stays-after o EndSign su = refl
stays-after o AbortSign su = refl

suited-push : (s : Sign) (ms : List Sign) → suited ms ≡ true → suits_sign (is_open ms) s ≡ true →
    suited (ms ++ s ∷ []) ≡ true
suited-push s ms su it =
    suited-from_Suited (ms ++ s ∷ [])
    (Suited-append false ms (s ∷ []) (Suited-from_suited ms su)
    (subst (λ (o : Bool). Suited o (s ∷ [])) (is_open-from ms) (it, tt)))

pub writes-nothing : TrackWrites nothing_written []
writes-nothing = record {
  spells = spells-nothing;
  can = record { suits = refl; valid = refl; rise = refl; near = refl; short = refl };
  open_is = refl;
  moment_is = refl;
}

pub writes-put : (w : TrackWriting) (m : ℕ) (x : Mark) (ps : List Put) → TrackWrites w ps →
    suits_sign w.open_now (sign_of x) ≡ true → w.moment ≤ m → m < 2 ^ 64 → comes_late ps m ≡ false →
    is_too_long (ps ++ At m (sign_of x) ∷ []) ≡ false →
    TrackWrites (put_behind w m (sign_of x)) (ps ++ At m (sign_of x) ∷ [])
writes-put w m x ps h suits above near gap short =
    let s : Sign = sign_of x in
    let signs : signs_in (ps ++ At m s ∷ []) ≡ signs_in ps ++ s ∷ [] = signs-push m s ps in
    let fits : suits_sign (is_open (signs_in ps)) s ≡ true =
    ap (λ (o : Bool). suits_sign o s) (sym h.open_is) ∙ suits in
    record {
      spells = spells-put w m s ps h.spells;
      can = record {
        suits = ap suited signs ∙ suited-push s (signs_in ps) h.can.suits fits;
        valid = ap (list_all is_valid) signs ∙ valid-push s (signs_in ps) h.can.valid (mark-valid x);
        rise = rise-push 0 m s ps h.can.rise (subst (λ n. n ≤ m) h.moment_is above) near;
        near = late-push None [] m s ps h.can.near gap;
        short = short;
      };
      open_is =
          stays-after w.open_now s suits
          ∙ (ap (λ (o : Bool). open_after o s) h.open_is
          ∙ (sym (is_open-push (signs_in ps) s) ∙ ap is_open (sym signs)));
      moment_is = sym (last-push 0 m s ps);
    }
