-- What is written of marks means what they mean.
use Rattle.std.proofs.Common.{◌≡◌, ℕ, suc, Bool, true, false, if◌then◌else◌, List, [], ◌∷◌, ◌++◌, map, flat_map, Option}
use Rattle.std.proofs.Common.{Some, None, refl, sym, ◌∙◌, ap, ap₂, append_assoc, append-nil, subst}
use Rattle.std.proofs.Common.{◌-◌, ◌*◌, ◌/◌}
use Rattle.std.proofs.lemmas.Grind.{flat_map-append}
use Rattle.std.proofs.lemmas.List.{map-append}
use Rattle.mb_message.specs.Bytes.{is_channel}
use Rattle.mb_message.specs.Signs.{Sign, ShortSign, RtSign, OpenSign, ByteSign, EndSign, AbortSign}
use Rattle.mb_stream.specs.Denotation.{Broken, Message, Syx, denotation, items_from, realtimes_from}
use Rattle.mb_stream.specs.Denotation.{stays_open}
use Rattle.mb_stream.specs.Puts.{Put, At, Flush, signs_in}
use Rattle.mb_stream.specs.Reading.{signs_of}
use Rattle.mb_stream.specs.Spelling.{data_of, full_bytes, spelled}
use Rattle.mb_stream.proofs.ByteKinds.{DataKind, kind}
use Rattle.mb_stream.proofs.Late.{Closed, denotation-late, late}
use Rattle.mb_stream.proofs.Machine.{Rest, read}
use Rattle.mb_stream.proofs.SpelledMarks.{full_bytes-spelled, read-spelled}
use Rattle.mb_stream.proofs.Suits.{Suit, Suit-suited}
use Rattle.mb_din.specs.Recording.{din_reading}
use Rattle.mb_din.proofs.DinMarks.{din-signs}
use Rattle.mb_smf.specs.Smf.{bare_bytes, given_at}
use Rattle.mb_smf.specs.SmfEvents.{ChannelEvent, EscapeEvent, event_given}
use Rattle.mb_smf.specs.SmfWritten.{CanBeWritten, MomentEvent, all_given, broken_event, data_behind, event_by}
use Rattle.mb_smf.specs.SmfWritten.{given_since, recorded, recorded_from, short_event, whole_event, written_given}

-- the marks of events, in the order of the events

abbrev whole_signs : List ℕ → List Sign
whole_signs ds = OpenSign ∷ (map ByteSign ds ++ EndSign ∷ [])

abbrev broken_signs : List ℕ → List Sign
broken_signs ds = OpenSign ∷ (map ByteSign ds ++ AbortSign ∷ [])

abbrev pub moved_at : List ℕ → Sign → List Sign
moved_at ds (ShortSign s a b) = ShortSign s a b ∷ []
moved_at ds (RtSign b) = RtSign b ∷ []
moved_at ds OpenSign = []
moved_at ds (ByteSign b) = []
moved_at ds EndSign = whole_signs ds
moved_at ds AbortSign = broken_signs ds

abbrev pub moved_end : List ℕ → Bool → List Sign
moved_end ds false = []
moved_end ds true = broken_signs ds

abbrev pub moved_from : List ℕ → Bool → List Put → List Sign
moved_from ds o [] = moved_end ds o
moved_from ds o (At m s ∷ puts) = moved_at ds s ++ moved_from (data_behind ds s) (stays_open o (s ∷ [])) puts
moved_from ds o (Flush ∷ puts) = moved_from ds o puts

-- their bytes are what the events give

bare-at : (m : ℕ) (bs : List ℕ) → bare_bytes (given_at m bs) ≡ bs
bare-at m [] = refl
bare-at m (b ∷ bs) = ap (λ z. b ∷ z) (bare-at m bs)

full-data : (ds : List ℕ) (more : List Sign) → full_bytes (map ByteSign ds ++ more) ≡ ds ++ full_bytes more
full-data [] more = refl
full-data (b ∷ ds) more = ap (λ z. b ∷ z) (full-data ds more)

short-gives : (s a b : ℕ) → event_given (short_event s a b) ≡ full_bytes (ShortSign s a b ∷ [])
short-gives s a b = by (is_channel s) where
  by : (q : Bool) → event_given (if q then ChannelEvent s a b else EscapeEvent (spelled (ShortSign s a b)))
      ≡ full_bytes (ShortSign s a b ∷ [])
  by true = sym (append-nil (s ∷ data_of s a b))
  by false = sym (append-nil (s ∷ data_of s a b))

whole-gives : (ds : List ℕ) → event_given (whole_event ds) ≡ full_bytes (whole_signs ds)
whole-gives ds = ap (λ z. 0xf0 ∷ z) (sym (full-data ds (EndSign ∷ [])))

broken-gives : (ds : List ℕ) → event_given (broken_event ds) ≡ full_bytes (broken_signs ds)
broken-gives ds = ap (λ z. 0xf0 ∷ z) (sym (full-data ds (AbortSign ∷ []) ∙ append-nil ds))

one-more : (first : ℕ) (e : MomentEvent) (es : List MomentEvent) (ms ns : List Sign) →
    event_given e.event ≡ full_bytes ms → bare_bytes (flat_map (given_since first) es) ≡ full_bytes ns →
    bare_bytes (given_since first e ++ flat_map (given_since first) es) ≡ full_bytes (ms ++ ns)
one-more first e es ms ns one others =
    map-append (λ x. x.byte) (given_since first e) (flat_map (given_since first) es)
    ∙ (ap₂ (λ x y. x ++ y) (bare-at (1000 * (e.moment / 1000 - first / 1000)) (event_given e.event) ∙ one) others
    ∙ sym (flat_map-append spelled ms ns))

moved-bytes : (first : ℕ) (puts : List Put) (ds : List ℕ) (o : Bool) (last : ℕ) →
    bare_bytes (flat_map (given_since first) (recorded_from ds o last puts)) ≡ full_bytes (moved_from ds o puts)
moved-bytes first [] ds false last = refl
moved-bytes first [] ds true last =
    one-more first (record { moment = last; event = broken_event ds }) [] (broken_signs ds) [] (broken-gives ds) refl
    ∙ ap full_bytes (append-nil (broken_signs ds))
moved-bytes first (Flush ∷ puts) ds o last = moved-bytes first puts ds o last
moved-bytes first (At m (ShortSign s a b) ∷ puts) ds o last =
    one-more first (record { moment = m; event = short_event s a b })
    (recorded_from ds (stays_open o (ShortSign s a b ∷ [])) m puts) (ShortSign s a b ∷ [])
    (moved_from ds (stays_open o (ShortSign s a b ∷ [])) puts) (short-gives s a b)
    (moved-bytes first puts ds (stays_open o (ShortSign s a b ∷ [])) m)
moved-bytes first (At m (RtSign b) ∷ puts) ds o last =
    one-more first (record { moment = m; event = EscapeEvent (b ∷ []) }) (recorded_from ds o m puts) (RtSign b ∷ [])
    (moved_from ds o puts) refl (moved-bytes first puts ds o m)
moved-bytes first (At m OpenSign ∷ puts) ds o last = moved-bytes first puts [] true m
moved-bytes first (At m (ByteSign b) ∷ puts) ds o last = moved-bytes first puts (ds ++ b ∷ []) o m
moved-bytes first (At m EndSign ∷ puts) ds o last =
    one-more first (record { moment = m; event = whole_event ds }) (recorded_from [] false m puts) (whole_signs ds)
    (moved_from [] false puts) (whole-gives ds) (moved-bytes first puts [] false m)
moved-bytes first (At m AbortSign ∷ puts) ds o last =
    one-more first (record { moment = m; event = broken_event ds }) (recorded_from [] false m puts) (broken_signs ds)
    (moved_from [] false puts) (broken-gives ds) (moved-bytes first puts [] false m)

all-bytes : (es : List MomentEvent) (bytes : List ℕ) →
    ((first : ℕ) → bare_bytes (flat_map (given_since first) es) ≡ bytes) → bare_bytes (all_given es) ≡ bytes
all-bytes [] bytes h = h 0
all-bytes (e ∷ es) bytes h = h e.moment

-- and they mean the same: a real-time message that comes before its SysEx counts as many before it

items-data : (ds xs : List ℕ) (more : List Sign) →
    items_from (Some xs) (map ByteSign ds ++ more) ≡ items_from (Some (xs ++ ds)) more
items-data [] xs more = ap (λ z. items_from (Some z) more) (sym (append-nil xs))
items-data (b ∷ ds) xs more =
    items-data ds (xs ++ b ∷ []) more ∙ ap (λ z. items_from (Some z) more) (append_assoc xs (b ∷ []) ds)

items-ended : (ds : List ℕ) (s : Sign) (more : List Sign) →
    items_from (Some []) ((map ByteSign ds ++ s ∷ []) ++ more) ≡ items_from (Some ds) (s ∷ more)
items-ended ds s more =
    ap (items_from (Some [])) (append_assoc (map ByteSign ds) (s ∷ []) more) ∙ items-data ds [] (s ∷ more)

abbrev open_data : Bool → List ℕ → Option (List ℕ)
open_data false ds = None
open_data true ds = Some ds

items-moved : (puts : List Put) (ds : List ℕ) (o : Bool) → Suit o (signs_in puts) →
    items_from None (moved_from ds o puts) ≡ items_from (open_data o ds) (signs_in puts)
items-moved [] ds false su = refl
items-moved [] ds true su = items-data ds [] (AbortSign ∷ [])
items-moved (Flush ∷ puts) ds o su = items-moved puts ds o su
items-moved (At m (ShortSign s a b) ∷ puts) ds false su =
    ap (λ z. Message s a b ∷ z) (items-moved puts ds false su.1)
items-moved (At m (ShortSign s a b) ∷ puts) ds true su = absurd su.0
items-moved (At m (RtSign b) ∷ puts) ds false su = items-moved puts ds false su.1
items-moved (At m (RtSign b) ∷ puts) ds true su = items-moved puts ds true su.1
items-moved (At m OpenSign ∷ puts) ds false su = items-moved puts [] true su.1
items-moved (At m OpenSign ∷ puts) ds true su = absurd su.0
items-moved (At m (ByteSign b) ∷ puts) ds false su = absurd su.0
items-moved (At m (ByteSign b) ∷ puts) ds true su = items-moved puts (ds ++ b ∷ []) true su.1
items-moved (At m EndSign ∷ puts) ds false su = absurd su.0
items-moved (At m EndSign ∷ puts) ds true su =
    items-ended ds EndSign (moved_from [] false puts) ∙ ap (λ z. Syx ds ∷ z) (items-moved puts [] false su.1)
items-moved (At m AbortSign ∷ puts) ds false su = absurd su.0
items-moved (At m AbortSign ∷ puts) ds true su =
    items-ended ds AbortSign (moved_from [] false puts) ∙ ap (λ z. Broken ds ∷ z) (items-moved puts [] false su.1)

realtimes-data : (ds : List ℕ) (n : ℕ) (more : List Sign) →
    realtimes_from true n (map ByteSign ds ++ more) ≡ realtimes_from true n more
realtimes-data [] n more = refl
realtimes-data (b ∷ ds) n more = realtimes-data ds n more

realtimes-ended : (ds : List ℕ) (s : Sign) (n : ℕ) (more : List Sign) →
    realtimes_from true n ((map ByteSign ds ++ s ∷ []) ++ more) ≡ realtimes_from true n (s ∷ more)
realtimes-ended ds s n more =
    ap (realtimes_from true n) (append_assoc (map ByteSign ds) (s ∷ []) more) ∙ realtimes-data ds n (s ∷ more)

realtimes-moved : (puts : List Put) (ds : List ℕ) (o : Bool) (n : ℕ) → Suit o (signs_in puts) →
    realtimes_from false n (moved_from ds o puts) ≡ realtimes_from o n (signs_in puts)
realtimes-moved [] ds false n su = refl
realtimes-moved [] ds true n su = realtimes-data ds n (AbortSign ∷ [])
realtimes-moved (Flush ∷ puts) ds o n su = realtimes-moved puts ds o n su
realtimes-moved (At m (ShortSign s a b) ∷ puts) ds false n su = realtimes-moved puts ds false (suc n) su.1
realtimes-moved (At m (ShortSign s a b) ∷ puts) ds true n su = absurd su.0
realtimes-moved (At m (RtSign b) ∷ puts) ds false n su =
    ap (λ z. record { byte = b; after = n } ∷ z) (realtimes-moved puts ds false n su.1)
realtimes-moved (At m (RtSign b) ∷ puts) ds true n su =
    ap (λ z. record { byte = b; after = n } ∷ z) (realtimes-moved puts ds true n su.1)
realtimes-moved (At m OpenSign ∷ puts) ds false n su = realtimes-moved puts [] true n su.1
realtimes-moved (At m OpenSign ∷ puts) ds true n su = absurd su.0
realtimes-moved (At m (ByteSign b) ∷ puts) ds false n su = absurd su.0
realtimes-moved (At m (ByteSign b) ∷ puts) ds true n su = realtimes-moved puts (ds ++ b ∷ []) true n su.1
realtimes-moved (At m EndSign ∷ puts) ds false n su = absurd su.0
realtimes-moved (At m EndSign ∷ puts) ds true n su =
    realtimes-ended ds EndSign n (moved_from [] false puts) ∙ realtimes-moved puts [] false (suc n) su.1
realtimes-moved (At m AbortSign ∷ puts) ds false n su = absurd su.0
realtimes-moved (At m AbortSign ∷ puts) ds true n su =
    realtimes-ended ds AbortSign n (moved_from [] false puts) ∙ realtimes-moved puts [] false n su.1

moved-means : (puts : List Put) → Suit false (signs_in puts) →
    denotation (moved_from [] false puts) ≡ denotation (signs_in puts)
moved-means puts su =
    ap₂ (λ is rs. record { items = is; realtimes = rs }) (items-moved puts [] false su)
    (realtimes-moved puts [] false 0 su)

-- they stand where a stream can have them

abbrev AllData : List ℕ → Type 0
AllData [] = Unit {0}
AllData (b ∷ bs) = (kind b ≡ DataKind) × AllData bs

all-push : (ds : List ℕ) (b : ℕ) → AllData ds → kind b ≡ DataKind → AllData (ds ++ b ∷ [])
all-push [] b all it = (it, tt)
all-push (d ∷ ds) b all it = (all.0, all-push ds b all.1 it)

suit-data : (ds : List ℕ) (more : List Sign) → AllData ds → Suit true more → Suit true (map ByteSign ds ++ more)
suit-data [] more all su = su
suit-data (b ∷ ds) more all su = (all.0, suit-data ds more all.1 su)

suit-ended : (ds : List ℕ) (s : Sign) (more : List Sign) → AllData ds → Suit true (s ∷ more) →
    Suit true ((map ByteSign ds ++ s ∷ []) ++ more)
suit-ended ds s more all su =
    subst (Suit true) (sym (append_assoc (map ByteSign ds) (s ∷ []) more)) (suit-data ds (s ∷ more) all su)

suit-moved : (puts : List Put) (ds : List ℕ) (o : Bool) → AllData ds → Suit o (signs_in puts) →
    Suit false (moved_from ds o puts)
suit-moved [] ds false all su = tt
suit-moved [] ds true all su = (tt, suit-data ds (AbortSign ∷ []) all (tt, tt))
suit-moved (Flush ∷ puts) ds o all su = suit-moved puts ds o all su
suit-moved (At m (ShortSign s a b) ∷ puts) ds false all su = (su.0, suit-moved puts ds false all su.1)
suit-moved (At m (ShortSign s a b) ∷ puts) ds true all su = absurd su.0
suit-moved (At m (RtSign b) ∷ puts) ds false all su = (su.0, suit-moved puts ds false all su.1)
suit-moved (At m (RtSign b) ∷ puts) ds true all su = (su.0, suit-moved puts ds true all su.1)
suit-moved (At m OpenSign ∷ puts) ds false all su = suit-moved puts [] true tt su.1
suit-moved (At m OpenSign ∷ puts) ds true all su = absurd su.0
suit-moved (At m (ByteSign b) ∷ puts) ds false all su = absurd su.0
suit-moved (At m (ByteSign b) ∷ puts) ds true all su =
    suit-moved puts (ds ++ b ∷ []) true (all-push ds b all su.0) su.1
suit-moved (At m EndSign ∷ puts) ds false all su = absurd su.0
suit-moved (At m EndSign ∷ puts) ds true all su =
    (tt, suit-ended ds EndSign (moved_from [] false puts) all (tt, suit-moved puts [] false tt su.1))
suit-moved (At m AbortSign ∷ puts) ds false all su = absurd su.0
suit-moved (At m AbortSign ∷ puts) ds true all su =
    (tt, suit-ended ds AbortSign (moved_from [] false puts) all (tt, suit-moved puts [] false tt su.1))

-- what is read of marks with no status left out
pub full-signs : (ms : List Sign) → Suit false ms → signs_of (din_reading (full_bytes ms)) ≡ late Closed ms
full-signs ms su =
    din-signs (full_bytes ms)
    ∙ (ap (read Rest) (full_bytes-spelled None ms) ∙ read-spelled false None Rest Closed ms tt su)

full-means : (ms : List Sign) → Suit false ms → denotation (signs_of (din_reading (full_bytes ms))) ≡ denotation ms
full-means ms su = ap denotation (full-signs ms su) ∙ denotation-late ms su

pub moved-suits : (puts : List Put) → CanBeWritten puts → Suit false (moved_from [] false puts)
moved-suits puts c = suit-moved puts [] false tt (Suit-suited (signs_in puts) c.suits c.valid)

-- what the event of a mark gives is the mark's bytes in the order of the events, at one moment
pub mark-gives : (first m : ℕ) (ds : List ℕ) (s : Sign) → flat_map (given_since first) (event_by ds m s) ≡
    given_at (1000 * (m / 1000 - first / 1000)) (full_bytes (moved_at ds s))
mark-gives first m ds (ShortSign s a b) =
    append-nil (given_since first (record { moment = m; event = short_event s a b }))
    ∙ ap (given_at (1000 * (m / 1000 - first / 1000))) (short-gives s a b)
mark-gives first m ds (RtSign b) = refl
mark-gives first m ds OpenSign = refl
mark-gives first m ds (ByteSign b) = refl
mark-gives first m ds EndSign =
    append-nil (given_since first (record { moment = m; event = whole_event ds }))
    ∙ ap (given_at (1000 * (m / 1000 - first / 1000))) (whole-gives ds)
mark-gives first m ds AbortSign =
    append-nil (given_since first (record { moment = m; event = broken_event ds }))
    ∙ ap (given_at (1000 * (m / 1000 - first / 1000))) (broken-gives ds)

pub written-means : (puts : List Put) → CanBeWritten puts →
    denotation (signs_of (din_reading (bare_bytes (written_given puts)))) ≡ denotation (signs_in puts)
written-means puts c =
    let su : Suit false (signs_in puts) = Suit-suited (signs_in puts) c.suits c.valid in
    let bytes : bare_bytes (written_given puts) ≡ full_bytes (moved_from [] false puts) =
    all-bytes (recorded puts) (full_bytes (moved_from [] false puts))
    (λ first. moved-bytes first puts [] false 0) in
    ap (λ z. denotation (signs_of (din_reading z))) bytes
    ∙ (full-means (moved_from [] false puts) (moved-suits puts c) ∙ moved-means puts su)
