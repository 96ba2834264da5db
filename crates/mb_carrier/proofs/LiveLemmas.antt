-- What the live part of a conversion means, by the laws of its specs alone, but for one step of each carrier.
use Rattle.std.proofs.Common.{◌≡◌, ℕ, ◌+◌, ◌≤◌, true, List, [], ◌∷◌, ◌++◌, refl, sym, ◌∙◌, ap, subst, subst₂, arith}
use Rattle.std.specs.Prelude.{Option, Some, None, IfSome}
use Rattle.std.specs.List.{list_all}
use Rattle.std.proofs.lemmas.List.Folds.{list_all-append}
use Rattle.mb_message.specs.Front.{IsFront}
use Rattle.mb_message.specs.Signs.{Sign}
use Rattle.mb_stream.specs.Denotation.{Denotation, denotation}
use Rattle.mb_stream.specs.Groups.{last_of}
use Rattle.mb_stream.specs.Lacking.{Lacks}
use Rattle.mb_stream.specs.MeaningFront.{IsMeaningFront}
use Rattle.mb_stream.specs.Puts.{Put, signs_in}
use Rattle.mb_stream.specs.Reading.{told_signs}
use Rattle.mb_stream.specs.Standing.{suited, is_valid, AreValid}
use Rattle.mb_stream.proofs.FrontMeans.{front-means, means-end}
use Rattle.mb_stream.proofs.LackLemmas.{lacks-nothing, lacks-then, lacks-weaken}
use Rattle.mb_stream.proofs.PutsLemmas.{signs_in-append}
use Rattle.mb_stream.proofs.StandingLemmas.{both}
use Rattle.mb_usb.proofs.LiveLaw.{lacks_two}
use Rattle.mb_ble.specs.HeldBack.{HeldBack}
use Rattle.mb_ble.specs.Written.{ble_live, ble_written}
use Rattle.mb_ble.proofs.Shown.{held_back}
use Rattle.mb_ble.proofs.WrittenPackets as ble
use Rattle.mb_carrier.specs.Carrier.{payload_of, known, known_signs, end_told, marks_so_far, den}
use Rattle.mb_carrier.specs.Carrier.{puts_so_far, live}
use Rattle.mb_carrier.specs.Conversion.{moments_of, none_set, carried_so_far, live_through, through}
use Rattle.mb_carrier.specs.Live.{HoldsBack, HeldBackBy, LeavesOut, bytes_held, both_held, most_held}
use Rattle.mb_carrier.specs.Word.{IsSpec, AreSpecs}
use Rattle.mb_carrier.specs.declared.spec.Spec.{Spec}
use Rattle.mb_carrier.specs.declared.spec.Spec.TheVariants.{Din, Usb, Fire, Ble}
use Rattle.mb_carrier.proofs.ConversionLemmas.{laws, through-means}
use Rattle.mb_carrier.proofs.GrowLemmas.{live-ends}
use Rattle.mb_carrier.proofs.GrowSpecs.{grows}
use Rattle.mb_carrier.proofs.PutLemmas.{known_signs-append, so_far-in}
use Rattle.mb_carrier.proofs.ReadingLemmas.{suited-front}

-- what is known so far means what the reading means
pub den-so_far : (s : Spec) (bytes : List ℕ) → den s bytes ≡ denotation (marks_so_far s bytes)
den-so_far s bytes =
    ap denotation ((laws s).ends bytes) ∙ means-end (marks_so_far s bytes) (last_of (payload_of s bytes))

pub so_far-suits : (s : Spec) (bytes : List ℕ) → suited (marks_so_far s bytes) ≡ true
so_far-suits s bytes =
    suited-front (marks_so_far s bytes) (told_signs (end_told s bytes))
    (ap suited (sym ((laws s).ends bytes)) ∙ (laws s).suits bytes)

pub valid-front : (xs ys : List Sign) → AreValid (xs ++ ys) → AreValid xs
valid-front xs ys v =
    (both (list_all is_valid xs) (list_all is_valid ys) (sym (list_all-append is_valid xs ys) ∙ v)).0

pub so_far-valid : (s : Spec) (bytes : List ℕ) → AreValid (marks_so_far s bytes)
so_far-valid s bytes =
    valid-front (marks_so_far s bytes) (told_signs (end_told s bytes))
    (subst AreValid ((laws s).ends bytes) ((laws s).valid bytes))

puts-suit : (s : Spec) (moments : ℕ → ℕ) (bytes : List ℕ) → suited (signs_in (puts_so_far s moments bytes)) ≡ true
puts-suit s moments bytes = ap suited (so_far-in s moments bytes) ∙ so_far-suits s bytes

puts-valid : (s : Spec) (moments : ℕ → ℕ) (bytes : List ℕ) → AreValid (signs_in (puts_so_far s moments bytes))
puts-valid s moments bytes = subst AreValid (sym (so_far-in s moments bytes)) (so_far-valid s bytes)

puts-mean : (s : Spec) (moments : ℕ → ℕ) (bytes : List ℕ) →
    denotation (signs_in (puts_so_far s moments bytes)) ≡ den s bytes
puts-mean s moments bytes = ap denotation (so_far-in s moments bytes) ∙ sym (den-so_far s bytes)

-- One step, by its carrier.

-- What is live is all that is written of the marks that are shown, and means what they mean.
packet-held : (size : ℕ) (puts : List Put) → 5 ≤ size → suited (signs_in puts) ≡ true → AreValid (signs_in puts) →
    LeavesOut size (denotation (signs_in puts)) (den (Ble size) (ble_live size puts))
packet-held size puts fits suits valid =
    let h : HeldBack size puts = held_back size puts fits in
    let all : signs_in puts ≡ signs_in h.shown ++ signs_in h.held =
    ap signs_in h.split.all ∙ signs_in-append h.shown h.held in
    let suits_shown : suited (signs_in h.shown) ≡ true =
    suited-front (signs_in h.shown) (signs_in h.held) (ap suited (sym all) ∙ suits) in
    let valid_shown : AreValid (signs_in h.shown) =
    valid-front (signs_in h.shown) (signs_in h.held) (subst AreValid all valid) in
    let less_is : den (Ble size) (ble_live size puts) ≡ denotation (signs_in h.shown) =
    ap (den (Ble size)) h.split.live_is ∙ ble.means size h.shown suits_shown valid_shown in record {
      shown = h.shown;
      held = h.held;
      suits = ap (λ ps. suited (signs_in ps)) (sym h.split.all) ∙ suits;
      full_is = ap (λ ps. denotation (signs_in ps)) h.split.all;
      less_is = less_is;
      packet = h.split.packet;
      front = subst₂ (λ (d e : Denotation). IsMeaningFront d e) (sym less_is) (ap denotation (sym all))
          (front-means (signs_in h.shown) (signs_in h.held) (ap suited (sym all) ∙ suits));
    }

pub holds-back : (s : Spec) (puts : List Put) → IsSpec s → suited (signs_in puts) ≡ true → AreValid (signs_in puts) →
    HoldsBack s (denotation (signs_in puts)) (den s (live s puts))
holds-back Din puts is suits valid = (laws Din).means is puts suits valid
holds-back (Fire port) puts is suits valid = (laws (Fire port)).means is puts suits valid
holds-back (Usb cable) puts is suits valid =
    subst (λ (less : Denotation). Lacks 2 less (denotation (signs_in puts)))
    (sym (den-so_far (Usb cable) (live (Usb cable) puts))) (lacks_two cable (signs_in puts) suits valid)
holds-back (Ble size) puts is suits valid = packet-held size puts is.0 suits valid

abbrev LacksIn : Option ℕ → (less full : Denotation) → Type 0
LacksIn most less full = IfSome most (λ n. Lacks n less full)

one-lacks : (s : Spec) (full less : Denotation) → HoldsBack s full less → LacksIn (bytes_held s) less full
one-lacks Din full less h = subst (λ (d : Denotation). Lacks 0 less d) h (lacks-nothing less)
one-lacks (Usb cable) full less h = h
one-lacks (Fire port) full less h = subst (λ (d : Denotation). Lacks 0 less d) h (lacks-nothing less)
one-lacks (Ble size) full less h = tt

-- From spec to spec.

held-carried : (specs : List Spec) (last : Spec) (puts : List Put) → AreSpecs specs → IsSpec last →
    suited (signs_in puts) ≡ true → AreValid (signs_in puts) →
    HeldBackBy (specs ++ last ∷ []) (denotation (signs_in puts)) (den last (live last (carried_so_far specs puts)))
held-carried [] last puts are is suits valid = (den last (live last puts), holds-back last puts is suits valid, refl)
held-carried (s ∷ specs) last puts are is suits valid =
    let m : ℕ → ℕ = moments_of s 0 puts in
    let bytes : List ℕ = live s puts in
    let next : List Put = puts_so_far s m bytes in (
      den s bytes,
      holds-back s puts are.0 suits valid,
      subst
          (λ (d : Denotation). HeldBackBy (specs ++ last ∷ []) d (den last (live last (carried_so_far specs next))))
          (puts-mean s m bytes) (held-carried specs last next are.1 is (puts-suit s m bytes) (puts-valid s m bytes)),
    )

pub so_far-held : (first : Spec) (between : List Spec) (last : Spec) (bytes : List ℕ) → AreSpecs between →
    IsSpec last → HeldBackBy (between ++ last ∷ []) (den first bytes) (den last (live_through first between last bytes))
so_far-held first between last bytes are is =
    subst
    (λ (d : Denotation). HeldBackBy (between ++ last ∷ []) d (den last (live_through first between last bytes)))
    (puts-mean first none_set bytes)
    (held-carried between last (puts_so_far first none_set bytes) are is (puts-suit first none_set bytes)
    (puts-valid first none_set bytes))

both-lack : (one others : Option ℕ) (full handed_on less : Denotation) → LacksIn one handed_on full →
    LacksIn others less handed_on → LacksIn (both_held one others) less full
both-lack (Some m) (Some n) full handed_on less h k =
    lacks-weaken (n + m) (m + n) less full (omega arith) (lacks-then n m less handed_on full k h)
both-lack (Some m) None full handed_on less h k = tt
both-lack None (Some n) full handed_on less h k = tt
both-lack None None full handed_on less h k = tt

held-lacks : (specs : List Spec) (full less : Denotation) → HeldBackBy specs full less →
    LacksIn (most_held specs) less full
held-lacks [] full less h = subst (λ (d : Denotation). Lacks 0 less d) h (lacks-nothing less)
held-lacks (s ∷ specs) full less h =
    both-lack (bytes_held s) (most_held specs) full h.0 less (one-lacks s full h.0 h.1) (held-lacks specs h.0 less h.2)

pub so_far-lacks : (first : Spec) (between : List Spec) (last : Spec) (bytes : List ℕ) → AreSpecs between →
    IsSpec last → IfSome (most_held (between ++ last ∷ []))
    (λ most. Lacks most (den last (live_through first between last bytes)) (den first bytes))
so_far-lacks first between last bytes are is =
    held-lacks (between ++ last ∷ []) (den first bytes) (den last (live_through first between last bytes))
    (so_far-held first between last bytes are is)

-- What is written so far is a front of all, so what is known of it is a front, and means a front. No carrier is
-- looked at.

den-front : (s : Spec) (bytes all : List ℕ) → IsFront bytes all → IsMeaningFront (den s bytes) (den s all)
den-front s bytes all f =
    let k = (grows s).known_stays bytes f.0 in
    let marks : marks_so_far s all ≡ marks_so_far s bytes ++ known_signs k.0 =
    ap (marks_so_far s) f.1 ∙ (ap known_signs k.1 ∙ known_signs-append (known s bytes) k.0) in
    subst₂ (λ (d e : Denotation). IsMeaningFront d e) (sym (den-so_far s bytes))
    (ap denotation (sym marks) ∙ sym (den-so_far s all))
    (front-means (marks_so_far s bytes) (known_signs k.0) (ap suited (sym marks) ∙ so_far-suits s all))

pub so_far-front : (first : Spec) (between : List Spec) (last : Spec) (bytes more : List ℕ) → AreSpecs between →
    IsSpec last → IsMeaningFront (den last (live_through first between last bytes)) (den first (bytes ++ more))
so_far-front first between last bytes more are is =
    subst (λ (d : Denotation). IsMeaningFront (den last (live_through first between last bytes)) d)
    (through-means first between last (bytes ++ more) are is)
    (den-front last (live_through first between last bytes) (through first between last (bytes ++ more))
    (live-ends laws grows first between last bytes more))
