-- A hop without stamps keeps the moments of messages. Behind each put as many messages more are known of the live part
-- as the put has, and they stand in the bytes that it gave; so they have its moment.
use Rattle.std.proofs.Common.{◌≡◌, ℕ, ◌+◌, true, List, [], ◌∷◌, ◌++◌, map, length, refl, sym, subst, ◌∙◌, ap, arith}
use Rattle.std.proofs.Common.{append_assoc}
use Rattle.std.proofs.lemmas.List.{append-nil}
use Rattle.mb_message.specs.Front.{IsFront}
use Rattle.mb_message.specs.Signs.{Sign, ShortSign, RtSign, OpenSign, ByteSign, EndSign, AbortSign}
use Rattle.mb_stream.specs.Groups.{last_of}
use Rattle.mb_stream.specs.Order.{Each}
use Rattle.mb_stream.specs.Puts.{Put, At, Flush, signs_in, puts_at}
use Rattle.mb_stream.specs.Reading.{sign_in, told_signs}
use Rattle.mb_stream.specs.Standing.{suited, AreValid}
use Rattle.mb_stream.specs.Told.{Known}
use Rattle.mb_stream.proofs.LiteralMarks.{at_end-signs}
use Rattle.mb_stream.proofs.Literal.{reader_of}
use Rattle.mb_stream.proofs.Machine.{Reader, Rest, Waits, Ready, Begun, Inside, ends}
use Rattle.mb_stream.proofs.PutsLemmas.{signs_in-append, signs_in-flush}
use Rattle.mb_din.specs.Written.{din_written}
use Rattle.mb_usb.specs.Written.{usb_live}
use Rattle.mb_fire.specs.Written.{fire_written}
use Rattle.mb_ble.specs.Distances.{message_moments}
use Rattle.mb_ble.proofs.RisingLemmas.{message_moments-append}
use Rattle.mb_carrier.specs.Carrier.{payload_of, known, known_signs, marks_so_far, end_told, moment_of, puts_known}
use Rattle.mb_carrier.specs.Carrier.{puts_of, end_moment, live, written}
use Rattle.mb_carrier.specs.Conversion.{repeated, moments_of}
use Rattle.mb_carrier.specs.Hop.{IsAtMoment, HaveMoment}
use Rattle.mb_carrier.specs.MessageMoments.{HasNoStamps}
use Rattle.mb_carrier.specs.Word.{IsSpec}
use Rattle.mb_carrier.specs.declared.spec.Spec.{Spec}
use Rattle.mb_carrier.specs.declared.spec.Spec.TheVariants.{Din, Usb, Fire, Ble}
use Rattle.mb_carrier.proofs.FreshPlaces.{fresh-in}
use Rattle.mb_carrier.proofs.GrowLemmas.{held-moment}
use Rattle.mb_carrier.proofs.GrowSpecs.{grows}
use Rattle.mb_carrier.proofs.LiveLemmas.{valid-front}
use Rattle.mb_carrier.proofs.MessageCounts.{messages, messages-append, moments-messages, live-count, written-count}
use Rattle.mb_carrier.proofs.PlaceLemmas.{In, Each-at}
use Rattle.mb_carrier.proofs.PutLemmas.{puts_known-append, puts_known-at, known_signs-in, known_signs-append}
use Rattle.mb_carrier.proofs.ReadingLemmas.{puts-front}

-- Messages of one moment are as many times that moment.
at-once : (at : ℕ) (signs : List Sign) → message_moments (puts_at at signs) ≡ repeated (messages signs) at
at-once at [] = refl
at-once at (ShortSign s a b ∷ ms) = ap (λ z. at ∷ z) (at-once at ms)
at-once at (RtSign b ∷ ms) = ap (λ z. at ∷ z) (at-once at ms)
at-once at (OpenSign ∷ ms) = at-once at ms
at-once at (ByteSign b ∷ ms) = at-once at ms
at-once at (EndSign ∷ ms) = ap (λ z. at ∷ z) (at-once at ms)
at-once at (AbortSign ∷ ms) = at-once at ms

no-moments : (puts : List Put) → messages (signs_in puts) ≡ 0 → message_moments puts ≡ []
no-moments puts e = by (message_moments puts) (moments-messages puts ∙ e)
  where
    by : (ms : List ℕ) → length ms ≡ 0 → ms ≡ []
    by [] h = refl
    by (m ∷ ms) h = absurd (omega (arith, h))

valid-puts : (xs ys : List Put) → AreValid (signs_in (xs ++ ys)) → AreValid (signs_in xs)
valid-puts xs ys v = valid-front (signs_in xs) (signs_in ys) (subst AreValid (signs_in-append xs ys) v)

-- what is known of bytes behind others at one moment
stamped-at : (s : Spec) → HasNoStamps s → (m : ℕ → ℕ) (at low size : ℕ) (ks : List Known) → HaveMoment m low size at →
    Each (In low size) ks → Each (λ k. IsAtMoment at (moment_of s m k) k.told) ks
stamped-at Din n m at low size ks have h = Each-at m at low size ks have h
stamped-at (Usb cable) n m at low size ks have h = Each-at m at low size ks have h
stamped-at (Fire port) n m at low size ks have h = Each-at m at low size ks have h
stamped-at (Ble size) n m at low count ks have h = absurd n

told-known : (ks : List Known) → told_signs (map (λ (k : Known). k.told) ks) ≡ known_signs ks
told-known [] = refl
told-known (k ∷ ks) = ap (λ z. sign_in k.told ++ z) (told-known ks)

fresh-moments : (s : Spec) → HasNoStamps s → (m : ℕ → ℕ) (at low size : ℕ) (ks : List Known) →
    HaveMoment m low size at →
    Each (In low size) ks → message_moments (puts_known s m ks) ≡ repeated (messages (known_signs ks)) at
fresh-moments s n m at low size ks have h =
    ap message_moments (puts_known-at s m at ks (stamped-at s n m at low size ks have h))
    ∙ (at-once at (told_signs (map (λ k. k.told) ks)) ∙ ap (λ z. repeated (messages z) at) (told-known ks))

cancel : (a b c d : ℕ) → a ≡ b → a + c ≡ b + d → c ≡ d
cancel a b c d e f = omega (arith, e, f)

abbrev so_far : Spec → (ℕ → ℕ) → List Put → List ℕ
so_far s m puts = message_moments (puts_known s m (known s (live s puts)))

-- One put.
one-put : (s : Spec) → HasNoStamps s → IsSpec s → (end : ℕ) (before more : List Put) (at : ℕ) (x : Sign) →
    suited (signs_in ((before ++ At at x ∷ []) ++ more)) ≡ true →
    AreValid (signs_in ((before ++ At at x ∷ []) ++ more)) →
    so_far s (moments_of s end ((before ++ At at x ∷ []) ++ more)) (before ++ At at x ∷ [])
    ≡ so_far s (moments_of s end ((before ++ At at x ∷ []) ++ more)) before ++ message_moments (At at x ∷ [])
one-put s n is end before more at x suits valid =
    let m : ℕ → ℕ = moments_of s end ((before ++ At at x ∷ []) ++ more) in
    let next : List Put = before ++ At at x ∷ [] in
    let suits_next : suited (signs_in next) ≡ true = puts-front next more suits in
    let suits_before : suited (signs_in before) ≡ true = puts-front before (At at x ∷ []) suits_next in
    let valid_next : AreValid (signs_in next) = valid-puts next more valid in
    let valid_before : AreValid (signs_in before) = valid-puts before (At at x ∷ []) valid_next in
    let f : IsFront (live s before) (live s next) = (grows s).stays before (At at x ∷ []) suits_next in
    let k : IsFront (known s (live s before)) (known s (live s before ++ f.0)) =
    (grows s).known_stays (live s before) f.0 in
    let all : known s (live s next) ≡ known s (live s before) ++ k.0 = ap (known s) f.1 ∙ k.1 in
    let have : HaveMoment m (length (live s before)) (length f.0) at =
    held-moment s (grows s) end before at (x ∷ []) more (live s before) f.0 suits refl f.1 in
    let inside : Each (In (length (live s before)) (length f.0)) k.0 = fresh-in s n (live s before) f.0 k.0 k.1 in
    let marks : messages (marks_so_far s (live s next))
    ≡ messages (marks_so_far s (live s before)) + messages (known_signs k.0) =
    ap (λ z. messages (known_signs z)) all
    ∙ (ap messages (known_signs-append (known s (live s before)) k.0)
    ∙ messages-append (known_signs (known s (live s before))) (known_signs k.0)) in
    let put : messages (signs_in next) ≡ messages (signs_in before) + messages (x ∷ []) =
    ap messages (signs_in-append before (At at x ∷ [])) ∙ messages-append (signs_in before) (x ∷ []) in
    let new : messages (known_signs k.0) ≡ messages (x ∷ []) =
    cancel (messages (marks_so_far s (live s before))) (messages (signs_in before)) (messages (known_signs k.0))
    (messages (x ∷ []))
    (live-count s n is before suits_before valid_before)
    (sym marks ∙ (live-count s n is next suits_next valid_next ∙ put)) in
    ap (λ z. message_moments (puts_known s m z)) all
    ∙ (ap message_moments (puts_known-append s m (known s (live s before)) k.0)
    ∙ (message_moments-append (puts_known s m (known s (live s before))) (puts_known s m k.0)
    ∙ ap (λ z. so_far s m before ++ z)
    (fresh-moments s n m at (length (live s before)) (length f.0) k.0 have inside
    ∙ (ap (λ c. repeated c at) new ∙ sym (at-once at (x ∷ []))))))

-- a flush
live-flush : (s : Spec) → HasNoStamps s → (before : List Put) → live s (before ++ Flush ∷ []) ≡ live s before
live-flush Din n before = ap din_written (signs_in-flush before)
live-flush (Usb cable) n before = ap (usb_live cable) (signs_in-flush before)
live-flush (Fire port) n before = ap (fire_written port) (signs_in-flush before)
live-flush (Ble size) n before = absurd n

-- All puts.
abbrev Live : Spec → ℕ → (before puts : List Put) → (all : List Put) → Type 0
Live s end before puts all =
    so_far s (moments_of s end all) all ≡ so_far s (moments_of s end all) before ++ message_moments puts

live-moments : (s : Spec) → HasNoStamps s → IsSpec s → (end : ℕ) (puts before : List Put) →
    suited (signs_in (before ++ puts)) ≡ true → AreValid (signs_in (before ++ puts)) →
    Live s end before puts (before ++ puts)
live-moments s n is end [] before suits valid =
    ap (so_far s (moments_of s end (before ++ []))) (append-nil before)
    ∙ sym (append-nil (so_far s (moments_of s end (before ++ [])) before))
live-moments s n is end (Flush ∷ puts) before suits valid =
    let next : List Put = before ++ Flush ∷ [] in
    let m : ℕ → ℕ = moments_of s end (next ++ puts) in
    let all : next ++ puts ≡ before ++ Flush ∷ puts = append_assoc before (Flush ∷ []) puts in
    subst (Live s end before (Flush ∷ puts)) all
    (live-moments s n is end puts next (ap (λ z. suited (signs_in z)) all ∙ suits)
    (subst (λ z. AreValid (signs_in z)) (sym all) valid)
    ∙ ap (λ z. message_moments (puts_known s m (known s z)) ++ message_moments puts) (live-flush s n before))
live-moments s n is end (At at x ∷ puts) before suits valid =
    let next : List Put = before ++ At at x ∷ [] in
    let m : ℕ → ℕ = moments_of s end (next ++ puts) in
    let all : next ++ puts ≡ before ++ At at x ∷ puts = append_assoc before (At at x ∷ []) puts in
    let suits_all : suited (signs_in (next ++ puts)) ≡ true = ap (λ z. suited (signs_in z)) all ∙ suits in
    let valid_all : AreValid (signs_in (next ++ puts)) = subst (λ z. AreValid (signs_in z)) (sym all) valid in
    subst (Live s end before (At at x ∷ puts)) all
    (live-moments s n is end puts next suits_all valid_all
    ∙ (ap (λ z. z ++ message_moments puts) (one-put s n is end before puts at x suits_all valid_all)
    ∙ (append_assoc (so_far s m before) (message_moments (At at x ∷ [])) (message_moments puts)
    ∙ ap (λ z. so_far s m before ++ z) (sym (message_moments-append (At at x ∷ []) puts)))))

-- The end makes known no message.
owed-none : (e : ℕ) (r : Reader) → message_moments (puts_at e (ends r)) ≡ []
owed-none e Rest = refl
owed-none e (Waits a n s) = refl
owed-none e (Ready n s) = refl
owed-none e (Begun a s d) = refl
owed-none e Inside = refl

end-none : (s : Spec) (e : ℕ) (bytes : List ℕ) → message_moments (puts_at e (told_signs (end_told s bytes))) ≡ []
end-none s e bytes =
    ap (λ ms. message_moments (puts_at e ms)) (at_end-signs (last_of (payload_of s bytes)))
    ∙ owed-none e (reader_of (last_of (payload_of s bytes)))

nothing-more : (a b c n : ℕ) → a ≡ n → b ≡ n → a ≡ b + c → c ≡ 0
nothing-more a b c n e f g = omega (arith, e, f, g)

pub hop-moments : (s : Spec) → HasNoStamps s → IsSpec s → (end : ℕ) (puts : List Put) → suited (signs_in puts) ≡ true →
    AreValid (signs_in puts) →
    message_moments (puts_of s (moments_of s end puts) (written s puts)) ≡ message_moments puts
hop-moments s n is end puts suits valid =
    let m : ℕ → ℕ = moments_of s end puts in
    let bytes : List ℕ = live s puts in
    let f : IsFront bytes (written s puts) = (grows s).closes puts suits in
    let k : IsFront (known s bytes) (known s (bytes ++ f.0)) = (grows s).known_stays bytes f.0 in
    let all : known s (written s puts) ≡ known s bytes ++ k.0 = ap (known s) f.1 ∙ k.1 in
    let marks : messages (marks_so_far s (written s puts))
    ≡ messages (marks_so_far s bytes) + messages (known_signs k.0) =
    ap (λ z. messages (known_signs z)) all
    ∙ (ap messages (known_signs-append (known s bytes) k.0)
    ∙ messages-append (known_signs (known s bytes)) (known_signs k.0)) in
    let none : messages (known_signs k.0) ≡ 0 =
    nothing-more (messages (marks_so_far s (written s puts))) (messages (marks_so_far s bytes))
    (messages (known_signs k.0))
    (messages (signs_in puts)) (written-count s is puts suits valid) (live-count s n is puts suits valid) marks in
    let e : ℕ = end_moment s m (written s puts) in
    let start : so_far s m [] ≡ [] =
    ap (λ z. message_moments (puts_known s m (known s z))) (grows s).nothing
    ∙ ap (λ z. message_moments (puts_known s m z)) (grows s).nothing_known in
    message_moments-append (puts_known s m (known s (written s puts)))
    (puts_at e (told_signs (end_told s (written s puts))))
    ∙ (ap (λ z. message_moments (puts_known s m (known s (written s puts))) ++ z) (end-none s e (written s puts))
    ∙ (append-nil (message_moments (puts_known s m (known s (written s puts))))
    ∙ (ap (λ z. message_moments (puts_known s m z)) all
    ∙ (ap message_moments (puts_known-append s m (known s bytes) k.0)
    ∙ (message_moments-append (puts_known s m (known s bytes)) (puts_known s m k.0)
    ∙ (ap (λ z. so_far s m puts ++ z) (no-moments (puts_known s m k.0) (ap messages (known_signs-in s m k.0) ∙ none))
    ∙ (append-nil (so_far s m puts)
    ∙ (live-moments s n is end puts [] suits valid ∙ ap (λ z. z ++ message_moments puts) start))))))))
