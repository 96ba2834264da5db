-- What is recorded and played again: the same meaning, and each message at the milliseconds since the first event.
use Rattle.std.proofs.Common.{◌≡◌, ℕ, ◌≤◌, ◌<◌, ◌^◌, Bool, true, false, List, [], ◌∷◌}
use Rattle.std.proofs.Common.{◌++◌, map, flat_map, refl, sym, ◌∙◌, ap, ap₂, subst, arith, append_assoc, append-nil}
use Rattle.std.specs.Prelude.{◌&&◌, nat_le, nat_lt}
use Rattle.std.proofs.lemmas.Bool.Decides.{nat_tests}
use Rattle.std.proofs.lemmas.List.Concat.{flat_map-append}
use Rattle.mb_message.specs.Signs.{Sign, ShortSign, RtSign, OpenSign, ByteSign, EndSign, AbortSign}
use Rattle.mb_stream.specs.Denotation.{denotation, stays_open}
use Rattle.mb_stream.specs.Groups.{last_of}
use Rattle.mb_stream.specs.Puts.{At, Flush, Put, puts_at, signs_in}
use Rattle.mb_stream.specs.Reading.{told_signs}
use Rattle.mb_stream.specs.Spelling.{full_bytes, spelled}
use Rattle.mb_stream.proofs.Late.{Broke, Closed, Opened, Place, late, late_at, owed, place_after}
use Rattle.mb_stream.proofs.Literal.{reader_of}
use Rattle.mb_stream.proofs.LiteralMarks.{at_end-signs}
use Rattle.mb_stream.proofs.Machine.{Begun, Inside, Reader, Ready, Rest, Waits, ends}
use Rattle.mb_stream.proofs.StandingLemmas.{both, open_after}
use Rattle.mb_stream.proofs.Suits.{Suit}
use Rattle.mb_frames.specs.Gathered.{TimedByte, gathered}
use Rattle.mb_smf.specs.Smf.{SmfRead, given_at, smf}
use Rattle.mb_smf.specs.SmfWritten.{CanBeWritten, MomentEvent, all_given, closing, data_behind, event_by}
use Rattle.mb_smf.specs.SmfWritten.{given_since, moments_rise, recorded, recorded_from, smf_written, written_given}
use Rattle.mb_smf.proofs.WrittenLaw.{written-read}
use Rattle.mb_smf.proofs.WrittenMeaning.{full-signs, mark-gives, moved-suits, moved_at, moved_from}
use Rattle.mb_smf.proofs.WrittenMeaning.{written-means}
use Rattle.mb_ble.specs.Distances.{message_moments}
use Rattle.mb_ble.proofs.RisingLemmas.{message_moments-append}
use Rattle.mb_carrier.specs.Carrier.{end_told, marks_of, marks_so_far, payload_of}
use Rattle.mb_carrier.specs.Conversion.{repeated}
use Rattle.mb_carrier.specs.SpecLaws.{marks-end}
use Rattle.mb_carrier.specs.declared.spec.Spec.TheVariants.{Din}
use Rattle.mb_carrier.proofs.MessageCounts.{messages, messages-append}
use Rattle.mb_track.specs.Track.{last_record_moment, new_marks, recording, track_end, track_marks, track_marks_so_far}
use Rattle.mb_track.specs.Track.{track_records}
use Rattle.mb_track.proofs.FrontLemmas.{all-signs}
use Rattle.mb_track.proofs.GatheredTapes.{AreTimed, gathered-marks, gathered-recording, timed-run}
use Rattle.mb_track.proofs.GatheredTapes.{timed_marks}
use Rattle.mb_track.proofs.MarkLemmas.{marks-more}
use Rattle.mb_tapes.specs.Played.{played}
use Rattle.mb_tapes.specs.Recorded.{first_moment, played_moment}

-- the bytes of a file have moments that don't fall

later-too : (lo now : ℕ) (ts : List TimedByte) → lo ≤ now → AreTimed now ts → AreTimed lo ts
later-too lo now [] le are = tt
later-too lo now (t ∷ ts) le are = (omega (arith, le, are.0), are.1, are.2)

timed-at : (lo at : ℕ) (bs : List ℕ) (ts : List TimedByte) → lo ≤ at → at < 2 ^ 64 → AreTimed at ts →
    AreTimed lo (given_at at bs ++ ts)
timed-at lo at [] ts le near are = later-too lo at ts le are
timed-at lo at (b ∷ bs) ts le near are = (le, near, timed-at at at bs ts (omega arith) near are)

since-rises : (first last m : ℕ) → last ≤ m → played_moment first last ≤ played_moment first m
since-rises first last m le = omega (arith, le)

since-near : (first m : ℕ) → m < 2 ^ 64 → played_moment first m < 2 ^ 64
since-near first m near = omega (arith, near)

record Rises (last m : ℕ) (puts : List Put) : Type 0 where
  pub above : last ≤ m
  pub near : m < 2 ^ 64
  pub rest : moments_rise m puts ≡ true

rises-by : (last m : ℕ) (s : Sign) (puts : List Put) → moments_rise last (At m s ∷ puts) ≡ true → Rises last m puts
rises-by last m s puts rise =
    let parts = both (nat_le last m && nat_lt m (2 ^ 64)) (moments_rise m puts) rise in
    let tests = both (nat_le last m) (nat_lt m (2 ^ 64)) parts.0 in
    let le = tests.0 in
    let lt = tests.1 in
    record { above = grind (arith, nat_tests); near = grind (arith, nat_tests); rest = parts.1 }

timed-from : (first : ℕ) (puts : List Put) (ds : List ℕ) (o : Bool) (last lo : ℕ) → lo ≤ played_moment first last →
    last < 2 ^ 64 → moments_rise last puts ≡ true →
    AreTimed lo (flat_map (given_since first) (recorded_from ds o last puts))
timed-from first [] ds false last lo le near rise = tt
timed-from first [] ds true last lo le near rise =
    timed-at lo (played_moment first last) (0xf0 ∷ ds) [] le (since-near first last near) tt
timed-from first (Flush ∷ puts) ds o last lo le near rise = timed-from first puts ds o last lo le near rise
timed-from first (At m s ∷ puts) ds o last lo le near rise =
    let r = rises-by last m s puts rise in
    let at : ℕ = played_moment first m in
    let es = recorded_from (data_behind ds s) (stays_open o (s ∷ [])) m puts in
    let above = since-rises first last m r.above in
    subst (AreTimed lo)
    (sym (flat_map-append (given_since first) (event_by ds m s) es
    ∙ ap (λ ts. ts ++ flat_map (given_since first) es) (mark-gives first m ds s)))
    (timed-at lo at (full_bytes (moved_at ds s)) (flat_map (given_since first) es) (omega (arith, le, above))
    (since-near first m r.near)
    (timed-from first puts (data_behind ds s) (stays_open o (s ∷ [])) m at (omega arith) r.near r.rest))

all-given : (es : List MomentEvent) → all_given es ≡ flat_map (given_since (first_moment es)) es
all-given [] = refl
all-given (e ∷ es) = refl

given-timed : (puts : List Put) → CanBeWritten puts → AreTimed 0 (written_given puts)
given-timed puts c =
    subst (AreTimed 0) (sym (all-given (recorded puts)))
    (timed-from (first_moment (recorded puts)) puts [] false 0 0 (omega arith) (omega arith) c.rise)

-- how many messages are known of bytes with no status left out

messages-none : (p : Place) → messages (owed p) ≡ 0
messages-none Closed = refl
messages-none Opened = refl
messages-none Broke = refl

messages-at : (p : Place) (m : Sign) → messages (late_at p m) ≡ messages (m ∷ [])
messages-at p (ShortSign s a b) = omega (arith, messages-append (owed p) (ShortSign s a b ∷ []), messages-none p)
messages-at p (RtSign b) = refl
messages-at p OpenSign = omega (arith, messages-append (owed p) (OpenSign ∷ []), messages-none p)
messages-at p (ByteSign b) = refl
messages-at p EndSign = refl
messages-at p AbortSign = refl

messages-late : (p : Place) (ms : List Sign) → messages (late p ms) ≡ messages ms
messages-late p [] = messages-none p
messages-late p (m ∷ ms) =
    let q = place_after p m in
    omega (
      arith,
      messages-append (late_at p m) (late q ms),
      messages-at p m,
      messages-late q ms,
      messages-append (m ∷ []) ms,
    )

messages-end : (r : Reader) → messages (ends r) ≡ 0
messages-end Rest = refl
messages-end (Waits a n s) = refl
messages-end (Ready n s) = refl
messages-end (Begun a s d) = refl
messages-end Inside = refl

end-messages : (bytes : List ℕ) → messages (told_signs (end_told Din bytes)) ≡ 0
end-messages bytes =
    ap messages (at_end-signs (last_of (payload_of Din bytes)))
    ∙ messages-end (reader_of (last_of (payload_of Din bytes)))

full-messages : (ms : List Sign) → Suit false ms → messages (marks_so_far Din (full_bytes ms)) ≡ messages ms
full-messages ms su =
    let bytes = full_bytes ms in
    let last = told_signs (end_told Din bytes) in
    let all : messages (marks_so_far Din bytes ++ last) ≡ messages ms
    = ap messages (sym (marks-end Din bytes) ∙ full-signs ms su) ∙ messages-late Closed ms in
    omega (arith, all, messages-append (marks_so_far Din bytes) last, end-messages bytes)

suit-front : (o : Bool) (xs ys : List Sign) → Suit o (xs ++ ys) → Suit o xs
suit-front o [] ys su = tt
suit-front o (x ∷ xs) ys su = (su.0, suit-front (open_after o x) xs ys su.1)

-- behind these, so many more are known of more such bytes
new-messages : (xs ms : List Sign) → Suit false (xs ++ ms) →
    messages (new_marks Din (full_bytes xs) (full_bytes ms)) ≡ messages ms
new-messages xs ms su =
    let news = new_marks Din (full_bytes xs) (full_bytes ms) in
    let all : messages (marks_so_far Din (full_bytes xs) ++ news) ≡ messages (xs ++ ms)
    = ap messages (sym (marks-more Din (full_bytes xs) (full_bytes ms)))
    ∙ (ap (λ bs. messages (marks_so_far Din bs)) (sym (flat_map-append spelled xs ms)) ∙ full-messages (xs ++ ms) su) in
    omega (
      arith,
      all,
      messages-append (marks_so_far Din (full_bytes xs)) news,
      messages-append xs ms,
      full-messages xs (suit-front false xs ms su),
    )

-- their moments

at-once : (at : ℕ) (signs : List Sign) → message_moments (puts_at at signs) ≡ repeated (messages signs) at
at-once at [] = refl
at-once at (ShortSign s a b ∷ ms) = ap (λ z. at ∷ z) (at-once at ms)
at-once at (RtSign b ∷ ms) = ap (λ z. at ∷ z) (at-once at ms)
at-once at (OpenSign ∷ ms) = at-once at ms
at-once at (ByteSign b ∷ ms) = at-once at ms
at-once at (EndSign ∷ ms) = ap (λ z. at ∷ z) (at-once at ms)
at-once at (AbortSign ∷ ms) = at-once at ms

bytes-moments : (xs ms : List Sign) (at : ℕ) (ts : List TimedByte) → Suit false (xs ++ ms) →
    message_moments (timed_marks Din (full_bytes xs) (given_at at (full_bytes ms) ++ ts)) ≡
    repeated (messages ms) at ++ message_moments (timed_marks Din (full_bytes (xs ++ ms)) ts)
bytes-moments xs ms at ts su =
    let news = new_marks Din (full_bytes xs) (full_bytes ms) in
    let rest = timed_marks Din (full_bytes xs ++ full_bytes ms) ts in
    ap message_moments (timed-run Din (full_bytes xs) at (full_bytes ms) ts)
    ∙ (message_moments-append (puts_at at news) rest
    ∙ ap₂ (λ x y. x ++ y) (at-once at news ∙ ap (λ n. repeated n at) (new-messages xs ms su))
    (ap (λ bs. message_moments (timed_marks Din bs ts)) (sym (flat_map-append spelled xs ms))))

data-messages : (ds : List ℕ) (more : List Sign) → messages (map ByteSign ds ++ more) ≡ messages more
data-messages [] more = refl
data-messages (d ∷ ds) more = data-messages ds more

moved-messages : (ds : List ℕ) (s : Sign) → messages (moved_at ds s) ≡ messages (s ∷ [])
moved-messages ds (ShortSign s a b) = refl
moved-messages ds (RtSign b) = refl
moved-messages ds OpenSign = refl
moved-messages ds (ByteSign b) = refl
moved-messages ds EndSign = data-messages ds (EndSign ∷ [])
moved-messages ds AbortSign = data-messages ds (AbortSign ∷ [])

-- a mark's own moment, as often as it is a message
one-moment : (f : ℕ → ℕ) (m : ℕ) (s : Sign) (puts : List Put) →
    map f (message_moments (At m s ∷ puts)) ≡ repeated (messages (s ∷ [])) (f m) ++ map f (message_moments puts)
one-moment f m (ShortSign s a b) puts = refl
one-moment f m (RtSign b) puts = refl
one-moment f m OpenSign puts = refl
one-moment f m (ByteSign b) puts = refl
one-moment f m EndSign puts = refl
one-moment f m AbortSign puts = refl

moments-from : (first : ℕ) (puts : List Put) (ds : List ℕ) (o : Bool) (last : ℕ) (xs : List Sign) →
    Suit false (xs ++ moved_from ds o puts) →
    message_moments (timed_marks Din (full_bytes xs) (flat_map (given_since first) (recorded_from ds o last puts))) ≡
    map (played_moment first) (message_moments puts)
moments-from first [] ds false last xs su = refl
moments-from first [] ds true last xs su =
    ap (λ ts. message_moments (timed_marks Din (full_bytes xs) ts))
    (sym (append-nil (flat_map (given_since first) (closing ds true last)))
    ∙ ap (λ ts. ts ++ []) (mark-gives first last ds AbortSign))
    ∙ (bytes-moments xs (moved_at ds AbortSign) (played_moment first last) [] su
    ∙ (append-nil (repeated (messages (moved_at ds AbortSign)) (played_moment first last))
    ∙ ap (λ n. repeated n (played_moment first last)) (moved-messages ds AbortSign)))
moments-from first (Flush ∷ puts) ds o last xs su = moments-from first puts ds o last xs su
moments-from first (At m s ∷ puts) ds o last xs su =
    let at : ℕ = played_moment first m in
    let ms = moved_at ds s in
    let es = recorded_from (data_behind ds s) (stays_open o (s ∷ [])) m puts in
    let others = moved_from (data_behind ds s) (stays_open o (s ∷ [])) puts in
    let suits : Suit false ((xs ++ ms) ++ others) = subst (Suit false) (sym (append_assoc xs ms others)) su in
    ap (λ ts. message_moments (timed_marks Din (full_bytes xs) ts))
    (flat_map-append (given_since first) (event_by ds m s) es
    ∙ ap (λ ts. ts ++ flat_map (given_since first) es) (mark-gives first m ds s))
    ∙ (bytes-moments xs ms at (flat_map (given_since first) es) (suit-front false (xs ++ ms) others suits)
    ∙ (ap₂ (λ x y. x ++ y) (ap (λ n. repeated n at) (moved-messages ds s))
    (moments-from first puts (data_behind ds s) (stays_open o (s ∷ [])) m (xs ++ ms) suits)
    ∙ sym (one-moment (played_moment first) m s puts)))

-- what is played

smf-given : (puts : List Put) → CanBeWritten puts → (smf (smf_written puts)).given ≡ written_given puts
smf-given puts c =
    ap (λ bytes. (smf bytes).given) (sym (append-nil (smf_written puts)))
    ∙ ap (λ (r : SmfRead). r.given) (written-read puts [] c)

played-tape : (puts : List Put) → CanBeWritten puts → played (smf_written puts) ≡ gathered (written_given puts)
played-tape puts c = ap gathered (smf-given puts c)

pub played-means : (puts : List Put) → CanBeWritten puts →
    denotation (signs_in (track_marks Din 0 (played (smf_written puts)))) ≡ denotation (signs_in puts)
played-means puts c =
    ap denotation (all-signs Din 0 (played (smf_written puts))
    ∙ ap (marks_of Din) (ap (λ tape. recording 0 (track_records tape)) (played-tape puts c)
    ∙ gathered-recording (written_given puts) (given-timed puts c))) ∙ written-means puts c

pub played-moments : (puts : List Put) → CanBeWritten puts →
    message_moments (track_marks Din 0 (played (smf_written puts))) ≡
    map (played_moment (first_moment (recorded puts))) (message_moments puts)
played-moments puts c =
    let tape = played (smf_written puts) in
    let so_far = track_marks_so_far Din 0 tape in
    let recorded_bytes = recording 0 (track_records tape) in
    let end = last_record_moment (track_records tape) in
    message_moments-append so_far (track_end Din 0 tape)
    ∙ (ap (λ ms. message_moments so_far ++ ms)
    (at-once end (told_signs (end_told Din recorded_bytes))
    ∙ ap (λ n. repeated n end) (end-messages recorded_bytes))
    ∙ (append-nil (message_moments so_far)
    ∙ (ap message_moments (ap (track_marks_so_far Din 0) (played-tape puts c)
    ∙ (gathered-marks Din (written_given puts) (given-timed puts c) ∙ ap (timed_marks Din []) (all-given (recorded puts))))
    ∙ moments-from (first_moment (recorded puts)) puts [] false 0 [] (moved-suits puts c))))
