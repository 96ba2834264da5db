-- What is read of written packets, with its moments. A packet's header is made of its first stamp, which may come late
-- in it. So what is read of the packet under way is said for each header that agrees with the first stamp so far.
--
--   timed_late p last puts    what is read: each abort late, each stamp unwrapped behind the last moment
--   UnderTimed ..             what was read of the packet under way, with its moments
use Rattle.std.proofs.Common.{◌≡◌, ℕ, ◌+◌, ◌*◌, ◌%◌, ◌<◌, ◌≤◌, Bool, true, false, ◌||◌, List, [], ◌∷◌, ◌++◌, map}
use Rattle.std.proofs.Common.{Option, Some, None, refl, sym, ap, ap₂, ◌∙◌, subst, arith, append_assoc, append-nil}
use Rattle.std.specs.Prelude.{nat_lt, nat_le, if◌then◌else◌, unwrap_or}
use Rattle.std.specs.Option.{option_or}
use Rattle.std.proofs.lemmas.Bool.{false≢true}
use Rattle.std.proofs.lemmas.Bool.Decides.{nat_tests}
use Rattle.std.proofs.lemmas.List.{map-append}
use Rattle.mb_message.specs.Signs.{Sign, ShortSign, RtSign, OpenSign, ByteSign, EndSign, AbortSign}
use Rattle.mb_clock.specs.Stamps.{upper_six, lower_seven}
use Rattle.mb_clock.specs.Moments.{next_moment}
use Rattle.mb_clock.specs.Clock.{Clock, clock_of, begun, upper_at, stamped}
use Rattle.mb_frames.specs.Frames.{FramePart, FrameByte, FrameEnd, frame, parts}
use Rattle.mb_stream.specs.Puts.{Put, At, Flush, signs_in, puts_at}
use Rattle.mb_stream.specs.Spelling.{data_of}
use Rattle.mb_stream.specs.Standing.{suited, AreValid}
use Rattle.mb_stream.proofs.ByteKinds.{Need, kind}
use Rattle.mb_stream.proofs.Machine.{Reader, Rest, tells}
use Rattle.mb_stream.proofs.Late.{Place, Closed, Opened, Broke, owed, late_at, place_after, is_opened}
use Rattle.mb_stream.proofs.Suits.{Suit, Suits_sign, Suit-suited, Fits_kind}
use Rattle.mb_stream.proofs.SpelledStep.{Meets, Meets-quiet}
use Rattle.mb_ble.specs.Distances.{IsRising, puts_read}
use Rattle.mb_ble.specs.Reading.{ble_reading}
use Rattle.mb_ble.specs.Written.{Spelled, stamp, running_of, is_left_out, spelling_at, spelling, content, last_stamp}
use Rattle.mb_ble.specs.Written.{first_stamp, last_moment, is_far, falls, has_fallen, header, ble_written}
use Rattle.mb_ble.specs.Written as written
use Rattle.mb_ble.specs.Running.{flushed, live_from, under_way_from}
use Rattle.mb_ble.specs.UnderWay.{is_abort}
use Rattle.mb_ble.proofs.Live.{at_spelled}
use Rattle.mb_ble.proofs.PacketMachine.{AtBody, Packeted, cut, taken, in_body, in_stamp, between, byte_tells}
use Rattle.mb_ble.proofs.SpelledPacket.{byte_after, body_tells, body_after, AllData, data-low, data-short, Spell, spell}
use Rattle.mb_ble.proofs.SpelledPacket.{stamp-high, Meets-cut}
use Rattle.mb_ble.proofs.WrittenPackets.{parts-frame, headed, Under, under-new, More, under-more, under-broke}
use Rattle.mb_ble.proofs.WrittenPackets.{meets-start, all_from, spelled_from, written-all}
use Rattle.mb_ble.proofs.TimedMachine.{byte_clock, timed_parts, ble-puts}

-- The bytes of a packet behind its header.
abbrev body_timed : Packeted → Clock → List ℕ → List Put
body_timed p k [] = []
body_timed p k (b ∷ bs) =
    puts_at k.moment (byte_tells p.place p.reader b) ++ body_timed (byte_after p b) (byte_clock p.place k b) bs

abbrev body_clock : Packeted → Clock → List ℕ → Clock
body_clock p k [] = k
body_clock p k (b ∷ bs) = body_clock (byte_after p b) (byte_clock p.place k b) bs

body_timed-append : (bs cs : List ℕ) (p : Packeted) (k : Clock) →
    body_timed p k (bs ++ cs) ≡ body_timed p k bs ++ body_timed (body_after p bs) (body_clock p k bs) cs
body_timed-append [] cs p k = refl
body_timed-append (b ∷ bs) cs p k =
    let here : List Put = puts_at k.moment (byte_tells p.place p.reader b) in
    let last : List Put = body_timed (body_after p (b ∷ bs)) (body_clock p k (b ∷ bs)) cs in
    ap (λ z. here ++ z) (body_timed-append bs cs (byte_after p b) (byte_clock p.place k b))
    ∙ sym (append_assoc here (body_timed (byte_after p b) (byte_clock p.place k b) bs) last)

body_clock-append : (bs cs : List ℕ) (p : Packeted) (k : Clock) →
    body_clock p k (bs ++ cs) ≡ body_clock (body_after p bs) (body_clock p k bs) cs
body_clock-append [] cs p k = refl
body_clock-append (b ∷ bs) cs p k = body_clock-append bs cs (byte_after p b) (byte_clock p.place k b)

timed-content : (c : List ℕ) (p : Packeted) (k : Clock) (more : List FramePart) →
    timed_parts p k (map FrameByte c ++ FrameEnd ∷ more) ≡ body_timed p k c ++ timed_parts
    (between (cut (body_after p c).reader)) (body_clock p k c) more
timed-content [] p k more = refl
timed-content (b ∷ c) p k more =
    let here : List Put = puts_at k.moment (byte_tells p.place p.reader b) in
    ap (λ z. here ++ z) (timed-content c (byte_after p b) (byte_clock p.place k b) more)
    ∙ sym (append_assoc here (body_timed (byte_after p b) (byte_clock p.place k b) c)
    (timed_parts (between (cut (body_after p (b ∷ c)).reader)) (body_clock p k (b ∷ c)) more))

timed-frame : (h : ℕ) (c more : List ℕ) (r : Reader) (k : Clock) → nat_lt h 128 ≡ false →
    timed_parts (between r) k (parts (frame (h ∷ c) ++ more)) ≡ body_timed (between r) (begun k (h % 64)) c
    ++ timed_parts (between (cut (body_after (between r) c).reader)) (body_clock (between r) (begun k (h % 64)) c)
    (parts more)
timed-frame h c more r k e =
    ap (timed_parts (between r) k) (parts-frame (h ∷ c) more)
    ∙ (ap₂ (λ z w. timed_parts z w (map FrameByte c ++ FrameEnd ∷ parts more)) (headed h r e)
    (ap (λ t. if t then k else begun k (h % 64)) e)
    ∙ timed-content c (between r) (begun k (h % 64)) (parts more))

-- What some bytes of one moment tell, and the clock behind them.
record OneMoment (p : Packeted) (k : Clock) (bs : List ℕ) (k2 : Clock) : Type 0 where
  told : body_timed p k bs ≡ puts_at k2.moment (body_tells p bs)
  clock : body_clock p k bs ≡ k2

at-data : (bs : List ℕ) (r : Reader) (q : Option (Need × ℕ)) (k : Clock) → AllData bs → OneMoment (in_body r q) k bs k
at-data [] r q k a = record { told = refl; clock = refl }
at-data (b ∷ bs) r q k a =
    let low : nat_lt b 128 ≡ true = data-low b a.0 in
    let next : byte_after (in_body r q) b ≡ taken r q (kind b) b =
    ap (λ c. if c then taken r q (kind b) b else in_stamp r q) low in
    let same : byte_clock AtBody k b ≡ k = ap (λ c. if c then k else stamped k (b % 128)) low in
    let m : OneMoment (taken r q (kind b) b) k bs k = at-data bs _ _ k a.1 in
    let here : List Put = puts_at k.moment (byte_tells AtBody r b) in
    record {
      told = ap₂ (λ z w. here ++ body_timed z w bs) next same
          ∙ (ap (λ z. here ++ z) (m.told ∙ ap (λ z. puts_at k.moment (body_tells z bs)) (sym next))
          ∙ sym (map-append (At k.moment) (byte_tells AtBody r b) (body_tells (byte_after (in_body r q) b) bs)));
      clock = ap₂ (λ z w. body_clock z w bs) next same ∙ m.clock;
    }

-- all but the first
abbrev DataBehind : List ℕ → Type 0
DataBehind [] = Unit {0}
DataBehind (b ∷ bs) = AllData bs

behind-stamp : (cs : List ℕ) (r : Reader) (q : Option (Need × ℕ)) (k : Clock) → DataBehind cs →
    OneMoment (in_stamp r q) k cs k
behind-stamp [] r q k a = record { told = refl; clock = refl }
behind-stamp (b ∷ bs) r q k a =
    let m : OneMoment (taken r q (kind b) b) k bs k = at-data bs _ _ k a in
    let here : List Put = puts_at k.moment (tells r (kind b) b) in
    record {
      told = ap (λ z. here ++ z) m.told
          ∙ sym (map-append (At k.moment) (tells r (kind b) b) (body_tells (taken r q (kind b) b) bs));
      clock = m.clock;
    }

at-stamp : (low : ℕ) (cs : List ℕ) (r : Reader) (q : Option (Need × ℕ)) (k : Clock) → low < 128 → DataBehind cs →
    OneMoment (in_body r q) k ((128 + low) ∷ cs) (stamped k low)
at-stamp low cs r q k below a =
    let high : nat_lt (128 + low) 128 ≡ false = stamp-high low in
    let bits : (128 + low) % 128 ≡ low = omega (arith, below) in
    let next : byte_after (in_body r q) (128 + low) ≡ in_stamp r q =
    ap (λ c. if c then taken r q (kind (128 + low)) (128 + low) else in_stamp r q) high in
    let clock : byte_clock AtBody k (128 + low) ≡ stamped k low =
    ap (λ c. if c then k else stamped k ((128 + low) % 128)) high ∙ ap (stamped k) bits in
    let none : byte_tells AtBody r (128 + low) ≡ [] =
    ap (λ c. if c then tells r (kind (128 + low)) (128 + low) else []) high in
    let m : OneMoment (in_stamp r q) (stamped k low) cs (stamped k low) = behind-stamp cs r q (stamped k low) a in
    record {
      told = ap (λ z. puts_at k.moment z ++ body_timed (byte_after (in_body r q) (128 + low))
          (byte_clock AtBody k (128 + low)) cs) none
          ∙ (ap₂ (λ z w. body_timed z w cs) next clock
          ∙ (m.told
          ∙ (ap (λ z. puts_at (stamped k low).moment (body_tells z cs)) (sym next)
          ∙ ap (λ z. puts_at (stamped k low).moment (z ++ body_tells (byte_after (in_body r q) (128 + low)) cs))
          (sym none))));
      clock = ap₂ (λ z w. body_clock z w cs) next clock ∙ m.clock;
    }

-- One spelling.
abbrev clock_at : Clock → Option ℕ → Clock
clock_at k None = k
clock_at k (Some m) = stamped k (lower_seven m)

low-seven : (m : ℕ) → lower_seven m < 128
low-seven m = omega arith

short-behind : (c : Bool) (s a b : ℕ) → Fits_kind (kind s) a b →
    DataBehind ((if c then [] else s ∷ []) ++ data_of s a b)
short-behind true s a b f = but-first (data_of s a b) (data-short s a b f)
  where
    but-first : (bs : List ℕ) → AllData bs → DataBehind bs
    but-first [] h = tt
    but-first (x ∷ bs) h = h.1
short-behind false s a b f = data-short s a b f

at-spelling : (w : Option ℕ) (x : Spelled) (o : Bool) (r : Reader) (q : Option (Need × ℕ)) (k : Clock) →
    is_abort x.mark ≡ false → Suits_sign o x.mark →
    OneMoment (in_body r q) k (spelling_at w x) (clock_at k (stamp x))
at-spelling w x o r q k i su = by x.moment x.mark o i su
  where
    by : (m : ℕ) (mark : Sign) (o : Bool) → is_abort mark ≡ false → Suits_sign o mark →
        OneMoment (in_body r q) k (spelling_at w (record { moment = m; mark = mark }))
        (clock_at k (stamp (record { moment = m; mark = mark })))
    by m (ShortSign s a b) true i su = absurd su
    by m (ShortSign s a b) false i su =
        at-stamp (lower_seven m) ((if is_left_out w s then [] else s ∷ []) ++ data_of s a b) r q k (low-seven m)
        (short-behind (is_left_out w s) s a b su)
    by m (RtSign b) o i su = at-stamp (lower_seven m) (b ∷ []) r q k (low-seven m) tt
    by m OpenSign o i su = at-stamp (lower_seven m) (0xf0 ∷ []) r q k (low-seven m) tt
    by m (ByteSign b) true i su = at-data (b ∷ []) r q k (su, tt)
    by m (ByteSign b) false i su = absurd su
    by m EndSign o i su = at-stamp (lower_seven m) (0xf7 ∷ []) r q k (low-seven m) tt
    by m AbortSign o i su = absurd (false≢true (sym i))

-- The clock of the packet under way.
abbrev Agrees : ℕ → Option ℕ → Type 0
Agrees h None = Unit {0}
Agrees h (Some m) = h ≡ upper_six m

-- of a header and the last stamp, with the last moment
abbrev in_step : Option ℕ → ℕ → ℕ → Clock
in_step None h last = record { upper = h; lower = 0; moment = last }
in_step (Some m) h last = record { upper = upper_six m; lower = lower_seven m; moment = last }

abbrev pub read_at : ℕ → Option ℕ → ℕ
read_at last None = last
read_at last (Some m) = next_moment last (m % 8192)

whole-bits : (m : ℕ) → 128 * upper_six m + lower_seven m ≡ m % 8192
whole-bits m = omega arith

next-upper_by : (l m : ℕ) (c : Bool) → nat_lt (lower_seven m) (lower_seven l) ≡ c → l ≤ m → m < l + 128 →
    (if c then (upper_six l + 1) % 64 else upper_six l) ≡ upper_six m
next-upper_by l m true e a b =
    let less : m % 128 < l % 128 = grind (arith, nat_tests) in omega (arith, less, a, b)
next-upper_by l m false e a b =
    let not_less : l % 128 ≤ m % 128 = grind (arith, nat_tests) in omega (arith, not_less, a, b)

next-upper : (l m : ℕ) (k : Clock) → k.upper ≡ upper_six l → k.lower ≡ lower_seven l → l ≤ m → m < l + 128 →
    upper_at k (lower_seven m) ≡ upper_six m
next-upper l m k u low a b =
    ap₂ (λ x y. if nat_lt (lower_seven m) y then (x + 1) % 64 else x) u low
    ∙ next-upper_by l m (nat_lt (lower_seven m) (lower_seven l)) refl a b

stamped-upper : (k : Clock) (m : ℕ) → upper_at k (lower_seven m) ≡ upper_six m →
    stamped k (lower_seven m) ≡ record {
      upper = upper_six m;
      lower = lower_seven m;
      moment = next_moment k.moment
          (m % 8192);
    }
stamped-upper k m e =
    ap (λ u. record { upper = u; lower = lower_seven m; moment = next_moment k.moment (128 * u + lower_seven m) }) e
    ∙ ap (λ bits. record { upper = upper_six m; lower = lower_seven m; moment = next_moment k.moment bits })
    (whole-bits m)

-- the last stamp isn't above this moment
abbrev IsBelow : Option ℕ → ℕ → Type 0
IsBelow None low = Unit {0}
IsBelow (Some m) low = m ≤ low

near : (l m : ℕ) → nat_le (l + 128) m ≡ false → m < l + 128
near l m e = grind (arith, nat_tests)

next-clock : (before : Option ℕ) (now : Option ℕ) (h last low : ℕ) → (before ≡ None → Agrees h now) →
    IsBelow before low → IsBelow (Some low) (unwrap_or now low) → is_far before now ≡ false →
    clock_at (in_step before h last) now ≡ in_step (option_or now before) h (read_at last now)
next-clock None None h last low g a b f = refl
next-clock (Some l) None h last low g a b f = refl
next-clock None (Some m) h last low g a b f =
    let none : nat_lt (lower_seven m) 0 ≡ false = grind (arith, nat_tests) in
    stamped-upper (in_step None h last) m (ap (λ c. if c then (h + 1) % 64 else h) none ∙ g refl)
next-clock (Some l) (Some m) h last low g a b f =
    let k : Clock = in_step (Some l) h last in
    stamped-upper k m (next-upper l m k refl refl (omega (arith, a, b)) (near l m f))

step-moment : (o : Option ℕ) (h last : ℕ) → (in_step o h last).moment ≡ last
step-moment None h last = refl
step-moment (Some m) h last = refl

earlier : (a b : Option ℕ) (h : ℕ) → Agrees h (option_or a b) → Agrees h a
earlier None b h g = tt
earlier (Some m) b h g = g

-- a packet without a last stamp has no first one
none-first : (before : List Spelled) → last_stamp before ≡ None → first_stamp before ≡ None
none-first [] e = refl
none-first (x ∷ before) e = by (stamp x) (last_stamp before) (first_stamp before) (none-first before) e
  where
    by : (now l f : Option ℕ) → (l ≡ None → f ≡ None) → option_or now l ≡ None → option_or f now ≡ None
    by None l f h e = ap (λ z. option_or z None) (h e)
    by (Some m) l f h e = cc

below-later : (o : Option ℕ) (low moment : ℕ) → IsBelow o low → low ≤ moment → IsBelow o moment
below-later None low moment b le = tt
below-later (Some m) low moment b le = omega (arith, b, le)

below-more : (before : List Spelled) (moment : ℕ) (mark : Sign) (low : ℕ) → IsBelow (last_stamp before) low →
    low ≤ moment →
    IsBelow (last_stamp (record { moment = moment; mark = mark } ∷ before)) moment
below-more before moment (ShortSign s a b) low u le = omega arith
below-more before moment (RtSign b) low u le = omega arith
below-more before moment OpenSign low u le = omega arith
below-more before moment (ByteSign b) low u le = below-later (last_stamp before) low moment u le
below-more before moment EndSign low u le = omega arith
below-more before moment AbortSign low u le = below-later (last_stamp before) low moment u le

rises-to : (moment : ℕ) (mark : Sign) (low : ℕ) → low ≤ moment →
    low ≤ unwrap_or (stamp (record { moment = moment; mark = mark })) low
rises-to moment (ShortSign s a b) low le = le
rises-to moment (RtSign b) low le = le
rises-to moment OpenSign low le = le
rises-to moment (ByteSign b) low le = omega arith
rises-to moment EndSign low le = le
rises-to moment AbortSign low le = omega arith

-- What was read of the packet under way, with its moments, and its clock.
record UnderTimed (r0 : Reader) (k0 : Clock) (before : List Spelled) (last : ℕ) (told : List Put) : Type 0 where
  timed : (h : ℕ) → Agrees h (first_stamp before) → body_timed (between r0) (begun k0 h) (content before) ≡ told
  clock : (h : ℕ) → Agrees h (first_stamp before) →
      body_clock (between r0) (begun k0 h) (content before) ≡ in_step (last_stamp before) h last

timed-new : (r0 : Reader) (k0 : Clock) (last : ℕ) → k0.moment ≡ last → UnderTimed r0 k0 [] last []
timed-new r0 k0 last e =
    record { timed = λ h g. refl; clock = λ h g. ap (λ m. record { upper = h; lower = 0; moment = m }) e }

timed-more : (r0 : Reader) (k0 : Clock) (before : List Spelled) (p : Place) (moment : ℕ) (mark : Sign) (last low : ℕ)
    (told : List Put) →
    is_abort mark ≡ false → Suits_sign (is_opened p) mark →
    (u : Under r0 before p) → UnderTimed r0 k0 before last told → IsBelow (last_stamp before) low → low ≤ moment →
    is_far (last_stamp before) (stamp (record { moment = moment; mark = mark })) ≡ false →
    UnderTimed r0 k0 (record { moment = moment; mark = mark } ∷ before)
    (read_at last (stamp (record { moment = moment; mark = mark })))
    (told ++ puts_at (read_at last (stamp (record { moment = moment; mark = mark }))) (late_at p mark))
timed-more r0 k0 before p moment mark last low told i su u t below le far =
    let x : Spelled = record { moment = moment; mark = mark } in
    let s : Spell u.reader u.runs (spelling before x) (running_of before) p mark =
    spell moment u.runs (running_of before) u.reader p mark i u.meets su in
    let first : (h : ℕ) → Agrees h (first_stamp (x ∷ before)) → Agrees h (first_stamp before) =
    λ h g. earlier (first_stamp before) (stamp x) h g in
    let now : (h : ℕ) → Agrees h (first_stamp (x ∷ before)) → last_stamp before ≡ None → Agrees h (stamp x) =
    λ h g e. subst (λ f. Agrees h (option_or f (stamp x))) (none-first before e) g in
    let one : (h : ℕ) → OneMoment (in_body u.reader u.runs) (in_step (last_stamp before) h last) (spelling before x)
    (clock_at (in_step (last_stamp before) h last) (stamp x)) =
    λ h. at-spelling (running_of before) x (is_opened p) u.reader u.runs (in_step (last_stamp before) h last) i su in
    let next : (h : ℕ) → Agrees h (first_stamp (x ∷ before)) → clock_at (in_step (last_stamp before) h last) (stamp x)
    ≡ in_step (last_stamp (x ∷ before)) h (read_at last (stamp x)) =
    λ h g. next-clock (last_stamp before) (stamp x) h last low (now h g) below (rises-to moment mark low le) far in
    record {
      timed = λ h g.
          body_timed-append (content before) (spelling before x) (between r0) (begun k0 h)
          ∙ ap₂ (λ y z. y ++ z) (t.timed h (first h g))
          (ap₂ (λ z w. body_timed z w (spelling before x)) u.next (t.clock h (first h g))
          ∙ ((one h).told
          ∙ (ap₂ (λ (k : Clock) ms. puts_at k.moment ms) (next h g) s.reads.told
          ∙ ap (λ m. puts_at m (late_at p mark)) (step-moment (last_stamp (x ∷ before)) h (read_at last (stamp x))))));
      clock = λ h g.
          body_clock-append (content before) (spelling before x) (between r0) (begun k0 h)
          ∙ (ap₂ (λ z w. body_clock z w (spelling before x)) u.next (t.clock h (first h g))
          ∙ ((one h).clock ∙ next h g));
    }

-- A packet ends.
agrees-header : (f : Option ℕ) (m : ℕ) → Agrees (upper_six (unwrap_or f m)) f
agrees-header None m = tt
agrees-header (Some n) m = refl

header-bits : (m : ℕ) → (128 + upper_six m) % 64 ≡ upper_six m
header-bits m = omega arith

ended-timed : (r0 : Reader) (k0 : Clock) (y : Spelled) (before : List Spelled) (p : Place) (last : ℕ) (told : List Put)
    (more : List ℕ) (rest : List Put) →
    (u : Under r0 (y ∷ before) p) → UnderTimed r0 k0 (y ∷ before) last told →
    ((k : Clock) → k.moment ≡ last → timed_parts (between (cut u.reader)) k (parts more) ≡ rest) →
    timed_parts (between r0) k0 (parts (flushed (y ∷ before) ++ more)) ≡ told ++ rest
ended-timed r0 k0 y before p last told more rest u t behind =
    let m : ℕ = unwrap_or (first_stamp (y ∷ before)) (last_moment (y ∷ before)) in
    let h : ℕ = upper_six m in
    let c : List ℕ = content (y ∷ before) in
    let g : Agrees h (first_stamp (y ∷ before)) = agrees-header (first_stamp (y ∷ before)) (last_moment (y ∷ before)) in
    timed-frame (128 + h) c more r0 k0 (stamp-high h)
    ∙ ap₂ (λ x z. x ++ z)
    (ap (λ b. body_timed (between r0) (begun k0 b) c) (header-bits m) ∙ t.timed h g)
    (ap₂ (λ (z : Packeted) w. timed_parts (between (cut z.reader)) w (parts more)) u.next
    (ap (λ b. body_clock (between r0) (begun k0 b) c) (header-bits m) ∙ t.clock h g)
    ∙ behind (in_step (last_stamp (y ∷ before)) h last) (step-moment (last_stamp (y ∷ before)) h last))

-- What is read of marks and flushes, with its moments: each abort late, each stamp unwrapped behind the last moment.
abbrev pub timed_late : Place → ℕ → List Put → List Put
timed_late p last [] = puts_at last (owed p)
timed_late p last (Flush ∷ puts) = timed_late p last puts
timed_late p last (At m s ∷ puts) =
    puts_at (read_at last (stamp (record { moment = m; mark = s }))) (late_at p s)
    ++ timed_late (place_after p s) (read_at last (stamp (record { moment = m; mark = s }))) puts

-- The statement for the rest of the puts, whatever is under way.
abbrev ReadsTimed : ℕ → List Put → Type 0
ReadsTimed n puts = (r0 : Reader) (k0 : Clock) (before : List Spelled) (p : Place) (last low : ℕ) (told : List Put) →
    Under r0 before p → UnderTimed r0 k0 before last told → IsBelow (last_stamp before) low → IsRising low puts → Suit
    (is_opened p) (signs_in puts) →
    timed_parts (between r0) k0 (parts (all_from n before puts)) ≡ told ++ timed_late p last puts

timed-none : (r0 : Reader) (k0 : Clock) (p : Place) (last : ℕ) → Meets None r0 p → k0.moment ≡ last →
    timed_parts (between r0) k0 [] ≡ puts_at last (owed p)
timed-none r0 k0 p last m e = ap₂ puts_at e (Meets-quiet None r0 p m).0

timed-end : (n : ℕ) → ReadsTimed n []
timed-end n r0 k0 [] p last low told u t below rises su =
    timed-none r0 k0 p last (meets-start r0 p u) (ap (λ (k : Clock). k.moment) (t.clock 0 tt))
    ∙ ap (λ z. z ++ puts_at last (owed p)) (t.timed 0 tt)
timed-end n r0 k0 (y ∷ before) p last low told u t below rises su =
    ap (λ z. timed_parts (between r0) k0 (parts z)) (sym (append-nil (flushed (y ∷ before))))
    ∙ ended-timed r0 k0 y before p last told [] (puts_at last (owed p)) u t
    (λ k e. timed-none (cut u.reader) k p last (Meets-cut (running_of (y ∷ before)) u.reader p u.meets) e)

timed-flush : (n : ℕ) (puts : List Put) → ReadsTimed n puts → ReadsTimed n (Flush ∷ puts)
timed-flush n puts ih r0 k0 [] p last low told u t below rises su = ih r0 k0 [] p last low told u t below rises su
timed-flush n puts ih r0 k0 (y ∷ before) p last low told u t below rises su =
    ap (λ z. timed_parts (between r0) k0 (parts z))
    (append_assoc (flushed (y ∷ before)) (live_from n [] puts) (flushed (under_way_from n [] puts)))
    ∙ ended-timed r0 k0 y before p last told (all_from n [] puts) (timed_late p last puts) u t
    (λ k e. ih (cut u.reader) k [] p last low []
    (under-new (cut u.reader) p (Meets-cut (running_of (y ∷ before)) u.reader p u.meets))
    (timed-new (cut u.reader) k last e) tt rises su)

-- a mark that goes on in the packet, or begins one
timed-on : (n moment : ℕ) (mark : Sign) (puts : List Put) → is_abort mark ≡ false → ReadsTimed n puts →
    (r0 : Reader) (k0 : Clock) (before : List Spelled) (p : Place) (last low : ℕ) (told : List Put) →
    Under r0 before p → UnderTimed r0 k0 before last told →
    IsBelow (last_stamp before) low → IsRising low (At moment mark ∷ puts) → Suit (is_opened p) (mark ∷ signs_in puts) →
    is_far (last_stamp before) (stamp (record { moment = moment; mark = mark })) ≡ false →
    timed_parts (between r0) k0
    (parts (all_from n (record { moment = moment; mark = mark } ∷ before) puts)) ≡ told ++ timed_late p last
    (At moment mark ∷ puts)
timed-on n moment mark puts i ih r0 k0 before p last low told u t below rises su far =
    let x : Spelled = record { moment = moment; mark = mark } in
    let m : More r0 before p moment mark = under-more r0 before p moment mark i su.0 u in
    let now : ℕ = read_at last (stamp x) in
    ih r0 k0 (x ∷ before) (place_after p mark) now moment (told ++ puts_at now (late_at p mark)) m.under
    (timed-more r0 k0 before p moment mark last low told i su.0 u t below rises.0 far)
    (below-more before moment mark low below rises.0) rises.1
    (subst (λ o. Suit o (signs_in puts)) (sym m.stands) su.1)
    ∙ append_assoc told (puts_at now (late_at p mark)) (timed_late (place_after p mark) now puts)

or-false : (a b : Bool) → (a || b) ≡ false → (a ≡ false) × (b ≡ false)
or-false false b e = (refl, e)
or-false true b e = absurd (false≢true (sym e))

not-far : (n : ℕ) (before : List Spelled) (x : Spelled) → written.ends n before x ≡ false →
    is_far (last_stamp before) (stamp x) ≡ false
not-far n [] x e = refl
not-far n (y ∷ before) x e = (or-false _ _ (or-false _ _ e).1).0

timed-choice : (n moment : ℕ) (mark : Sign) (puts : List Put) → is_abort mark ≡ false → ReadsTimed n puts →
    (r0 : Reader) (k0 : Clock) (before : List Spelled) (p : Place) (last low : ℕ) (told : List Put) →
    Under r0 before p → UnderTimed r0 k0 before last told →
    IsBelow (last_stamp before) low → IsRising low (At moment mark ∷ puts) → Suit (is_opened p) (mark ∷ signs_in puts) →
    (c : Bool) → written.ends n before (record { moment = moment; mark = mark }) ≡ c →
    timed_parts (between r0) k0
    (parts (spelled_from n before (record { moment = moment; mark = mark }) c puts)) ≡ told ++ timed_late p last
    (At moment mark ∷ puts)
timed-choice n moment mark puts i ih r0 k0 before p last low told u t below rises su false e =
    timed-on n moment mark puts i ih r0 k0 before p last low told u t below rises su
    (not-far n before (record { moment = moment; mark = mark }) e)
timed-choice n moment mark puts i ih r0 k0 [] p last low told u t below rises su true e = absurd (false≢true e)
timed-choice n moment mark puts i ih r0 k0 (y ∷ before) p last low told u t below rises su true e =
    let x : Spelled = record { moment = moment; mark = mark } in
    ap (λ z. timed_parts (between r0) k0 (parts z))
    (append_assoc (flushed (y ∷ before)) (live_from n (x ∷ []) puts) (flushed (under_way_from n (x ∷ []) puts)))
    ∙ ended-timed r0 k0 y before p last told (all_from n (x ∷ []) puts) (timed_late p last (At moment mark ∷ puts)) u t
    (λ k e. timed-on n moment mark puts i ih (cut u.reader) k [] p last low []
    (under-new (cut u.reader) p (Meets-cut (running_of (y ∷ before)) u.reader p u.meets))
    (timed-new (cut u.reader) k last e) tt rises su refl)

timed-spelled : (n moment : ℕ) (mark : Sign) (puts : List Put) → is_abort mark ≡ false → ReadsTimed n puts →
    ReadsTimed n (At moment mark ∷ puts)
timed-spelled n moment mark puts i ih r0 k0 before p last low told u t below rises su =
    let x : Spelled = record { moment = moment; mark = mark } in
    let z = at_spelled n before moment mark i in
    ap₂ (λ g w. timed_parts (between r0) k0
    (parts ((g ++ live_from n w puts) ++ flushed (under_way_from n w puts)))) z.1 z.0
    ∙ timed-choice n moment mark puts i ih r0 k0 before p last low told u t below rises su
    (written.ends n before x) refl

timed-abort : (n moment : ℕ) (puts : List Put) → ReadsTimed n puts → ReadsTimed n (At moment AbortSign ∷ puts)
timed-abort n moment puts ih r0 k0 before Closed last low told u t below rises su = absurd su.0
timed-abort n moment puts ih r0 k0 before Opened last low told u t below rises su =
    ih r0 k0 before Broke last moment told (under-broke r0 before u) t
    (below-later (last_stamp before) low moment below rises.0) rises.1 su.1
timed-abort n moment puts ih r0 k0 before Broke last low told u t below rises su = absurd su.0

reads-timed : (n : ℕ) (puts : List Put) → ReadsTimed n puts
reads-timed n [] = timed-end n
reads-timed n (Flush ∷ puts) = timed-flush n puts (reads-timed n puts)
reads-timed n (At m (ShortSign s a b) ∷ puts) = timed-spelled n m (ShortSign s a b) puts refl (reads-timed n puts)
reads-timed n (At m (RtSign b) ∷ puts) = timed-spelled n m (RtSign b) puts refl (reads-timed n puts)
reads-timed n (At m OpenSign ∷ puts) = timed-spelled n m OpenSign puts refl (reads-timed n puts)
reads-timed n (At m (ByteSign b) ∷ puts) = timed-spelled n m (ByteSign b) puts refl (reads-timed n puts)
reads-timed n (At m EndSign ∷ puts) = timed-spelled n m EndSign puts refl (reads-timed n puts)
reads-timed n (At m AbortSign ∷ puts) = timed-abort n m puts (reads-timed n puts)

pub written-timed : (n : ℕ) (puts : List Put) → suited (signs_in puts) ≡ true → AreValid (signs_in puts) →
    IsRising 0 puts →
    puts_read (ble_reading (ble_written n puts)) ≡ timed_late Closed 0 puts
written-timed n puts s v rises =
    ble-puts (ble_written n puts)
    ∙ (ap (λ z. timed_parts (between Rest) (clock_of []) (parts z)) (written-all n puts)
    ∙ reads-timed n puts Rest (clock_of []) [] Closed 0 0 [] (under-new Rest Closed tt)
    (timed-new Rest (clock_of []) 0 refl) tt rises (Suit-suited (signs_in puts) s v))
