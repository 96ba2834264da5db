-- What is read of written packets: the marks with each abort late, and no note; at every size, whatever the moments and
-- flushes are.
use Rattle.std.proofs.Common.{◌≡◌, ℕ, suc, ◌+◌, ◌*◌, ◌/◌, ◌%◌, ◌≤◌, Bool, true, false, ◌==◌, List, [], ◌∷◌, ◌++◌, map}
use Rattle.std.proofs.Common.{length, Option, Some, None, refl, sym, ap, ap₂, ◌∙◌, subst, arith, append_assoc}
use Rattle.std.proofs.Common.{append-nil}
use Rattle.std.specs.Prelude.{nat_lt, if◌then◌else◌, unwrap_or}
use Rattle.std.proofs.lemmas.Bool.{false≢true}
use Rattle.std.proofs.lemmas.Bool.Decides.{nat_tests}
use Rattle.mb_message.specs.Signs.{Sign, ShortSign, RtSign, OpenSign, ByteSign, EndSign, AbortSign}
use Rattle.mb_clock.specs.Stamps.{upper_six}
use Rattle.mb_frames.specs.Frames.{FramePart, FrameBegin, FrameByte, FrameEnd, frame, parts}
use Rattle.mb_frames.proofs.Steps.{rest_parts-zero, parts-counted}
use Rattle.mb_stream.specs.Denotation.{denotation}
use Rattle.mb_stream.specs.Puts.{Put, At, Flush, signs_in}
use Rattle.mb_stream.specs.Reading.{signs_of, notes_of}
use Rattle.mb_stream.specs.Standing.{suited, AreValid}
use Rattle.mb_stream.proofs.ByteKinds.{Need}
use Rattle.mb_stream.proofs.Machine.{Reader, Rest}
use Rattle.mb_stream.proofs.Late.{Place, Closed, Opened, Broke, owed, late_at, place_after, late, is_opened}
use Rattle.mb_stream.proofs.Late.{denotation-late, length-late}
use Rattle.mb_stream.proofs.StandingLemmas.{open_after}
use Rattle.mb_stream.proofs.Suits.{Suit, Suits_sign, Suit-suited}
use Rattle.mb_stream.proofs.SpelledStep.{running_after, Meets, Meets-quiet}
use Rattle.mb_ble.specs.Reading.{ble_reading}
use Rattle.mb_ble.specs.Written.{Spelled, running_of, spelling, content, first_stamp, last_moment, header, ended}
use Rattle.mb_ble.specs.Written.{ble_live, ble_written}
use Rattle.mb_ble.specs.Written as written
use Rattle.mb_ble.specs.Running.{flushed, live_from, under_way_from, under_way}
use Rattle.mb_ble.specs.UnderWay.{is_abort}
use Rattle.mb_ble.proofs.Live.{at_spelled, live_law, written_law}
use Rattle.mb_ble.proofs.PacketMachine.{AtHeader, AtSkipped, AtBody, Packeted, cut, in_body, between, byte_tells}
use Rattle.mb_ble.proofs.PacketMachine.{part_noted, read_parts, CleanParts}
use Rattle.mb_ble.proofs.SpelledPacket.{byte_after, body_tells, body_after, CleanBody, body_tells-append}
use Rattle.mb_ble.proofs.SpelledPacket.{body_after-append, CleanBody-append, Spell, spell, stamp-high, Meets-cut}
use Rattle.mb_ble.proofs.PacketLiteral.{ble-signs, ble-notes}
use Rattle.mb_frames.specs.Counting.{counted_parts, rest_parts}

-- The parts of a frame and of what follows.
rest-content : (c more : List ℕ) → rest_parts (length c) (c ++ more) ≡ map FrameByte c ++ FrameEnd ∷ counted_parts more
rest-content [] more = rest_parts-zero more
rest-content (b ∷ c) more = ap (λ z. FrameByte b ∷ z) (rest-content c more)

joined : (n : ℕ) → 256 * (n / 256) + n % 256 ≡ n
joined n = omega arith

pub parts-frame : (c more : List ℕ) → parts (frame c ++ more) ≡ FrameBegin (length c) ∷ map FrameByte c ++
    FrameEnd ∷ parts more
parts-frame c more =
    parts-counted (frame c ++ more)
    ∙ (ap (λ n. FrameBegin n ∷ rest_parts n (c ++ more)) (joined (length c))
    ∙ (ap (λ z. FrameBegin (length c) ∷ z) (rest-content c more)
    ∙ ap (λ z. FrameBegin (length c) ∷ map FrameByte c ++ FrameEnd ∷ z) (sym (parts-counted more))))

-- Bytes of a content, to the end of its frame.
read-content : (c : List ℕ) (p : Packeted) (more : List FramePart) →
    read_parts p (map FrameByte c ++ FrameEnd ∷ more) ≡ body_tells p c ++
    read_parts (between (cut (body_after p c).reader)) more
read-content [] p more = refl
read-content (b ∷ c) p more =
    ap (λ z. byte_tells p.place p.reader b ++ z) (read-content c (byte_after p b) more)
    ∙ sym (append_assoc (byte_tells p.place p.reader b) (body_tells (byte_after p b) c)
    (read_parts (between (cut (body_after (byte_after p b) c).reader)) more))

clean-content : (c : List ℕ) (p : Packeted) (more : List FramePart) → CleanBody p c →
    part_noted (body_after p c) FrameEnd ≡ false →
    CleanParts (between (cut (body_after p c).reader)) more → CleanParts p (map FrameByte c ++ FrameEnd ∷ more)
clean-content [] p more a e h = (e, h)
clean-content (b ∷ c) p more a e h = (a.0, clean-content c (byte_after p b) more a.1 e h)

pub headed : (h : ℕ) (r : Reader) → nat_lt h 128 ≡ false → byte_after (record {
  place = AtHeader;
  reader = r;
  runs =
      None;
}) h ≡ between r
headed h r e = ap (λ c. record { place = if c then AtSkipped else AtBody; reader = r; runs = None }) e

some-length : (n : ℕ) → (suc n == 0) ≡ false
some-length n = grind (arith, nat_tests)

read-frame : (h : ℕ) (c more : List ℕ) (r : Reader) → nat_lt h 128 ≡ false →
    read_parts (between r) (parts (frame (h ∷ c) ++ more)) ≡ body_tells (between r) c ++
    read_parts (between (cut (body_after (between r) c).reader)) (parts more)
read-frame h c more r e =
    ap (read_parts (between r)) (parts-frame (h ∷ c) more)
    ∙ (ap (λ z. read_parts z (map FrameByte c ++ FrameEnd ∷ parts more)) (headed h r e) ∙
    read-content c (between r) (parts more))

clean-frame : (h : ℕ) (c more : List ℕ) (r : Reader) → nat_lt h 128 ≡ false → CleanBody (between r) c →
    part_noted (body_after (between r) c) FrameEnd ≡ false →
    CleanParts (between (cut (body_after (between r) c).reader)) (parts more) →
    CleanParts (between r) (parts (frame (h ∷ c) ++ more))
clean-frame h c more r e a n k =
    subst (CleanParts (between r)) (sym (parts-frame (h ∷ c) more)) (
      some-length (length c),
      (
        e,
        subst (λ z. CleanParts z (map FrameByte c ++ FrameEnd ∷ parts more))
            (sym (headed h r e)) (clean-content c (between r) (parts more) a n k),
      ),
    )

-- What was read of the packet under way, from where it began.
pub record Under (r0 : Reader) (before : List Spelled) (p : Place) : Type 0 where
  pub reader : Reader
  pub runs : Option (Need × ℕ)
  pub next : body_after (between r0) (content before) ≡ in_body reader runs
  pub clean : CleanBody (between r0) (content before)
  pub meets : Meets (running_of before) reader p

pub under-new : (r0 : Reader) (p : Place) → Meets None r0 p → Under r0 [] p
under-new r0 p m = record { reader = r0; runs = None; next = refl; clean = tt; meets = m }

running-same : (moment : ℕ) (mark : Sign) (before : List Spelled) → running_after (running_of before) mark ≡
    running_of (record { moment = moment; mark = mark } ∷ before)
running-same moment (ShortSign s a b) before = refl
running-same moment (RtSign b) before = refl
running-same moment OpenSign before = refl
running-same moment (ByteSign b) before = refl
running-same moment EndSign before = refl
running-same moment AbortSign before = refl

pub record More (r0 : Reader) (before : List Spelled) (p : Place) (moment : ℕ) (mark : Sign) : Type 0 where
  pub under : Under r0 (record { moment = moment; mark = mark } ∷ before) (place_after p mark)
  pub told : body_tells (between r0) (content (record { moment = moment; mark = mark } ∷ before)) ≡
      body_tells (between r0) (content before) ++ late_at p mark
  pub stands : is_opened (place_after p mark) ≡ open_after (is_opened p) mark

pub under-more : (r0 : Reader) (before : List Spelled) (p : Place) (moment : ℕ) (mark : Sign) → is_abort mark ≡ false →
    Suits_sign (is_opened p) mark → Under r0 before p →
    More r0 before p moment mark
under-more r0 before p moment mark i su u =
    let x : Spelled = record { moment = moment; mark = mark } in
    let s : Spell u.reader u.runs (spelling before x) (running_of before) p mark =
    spell moment u.runs (running_of before) u.reader p mark i u.meets su in
    record {
      under = record {
        reader = s.reader2;
        runs = s.runs2;
        next = body_after-append (content before) (spelling before x) (between r0) ∙
            (ap (λ z. body_after z (spelling before x)) u.next ∙ s.reads.next);
        clean = CleanBody-append (content before) (spelling before x) (between r0) u.clean
            (subst (λ z. CleanBody z (spelling before x)) (sym u.next) s.reads.clean);
        meets = subst (λ w. Meets w s.reader2 (place_after p mark)) (running-same moment mark before) s.meets;
      };
      told = body_tells-append (content before) (spelling before x) (between r0)
          ∙ (ap (λ z. body_tells (between r0) (content before) ++ body_tells z (spelling before x)) u.next
          ∙ ap (λ z. body_tells (between r0) (content before) ++ z) s.reads.told);
      stands = s.stands;
    }

meets-broke : (w : Option ℕ) (r : Reader) → Meets w r Opened → Meets w r Broke
meets-broke None r m = m
meets-broke (Some s) r m = absurd m

pub under-broke : (r0 : Reader) (before : List Spelled) → Under r0 before Opened → Under r0 before Broke
under-broke r0 before u = record {
  reader = u.reader;
  runs = u.runs;
  next = u.next;
  clean = u.clean;
  meets =
      meets-broke (running_of before) u.reader u.meets;
}

-- What is read of the packet under way and of bytes behind it.
record ReadRest (r0 : Reader) (before : List Spelled) (bytes : List ℕ) (ms : List Sign) : Type 0 where
  told : read_parts (between r0) (parts bytes) ≡ body_tells (between r0) (content before) ++ ms
  clean : CleanParts (between r0) (parts bytes)

header-high : (before : List Spelled) → nat_lt (header before) 128 ≡ false
header-high before = grind (arith, nat_tests)

-- A packet ends.
read-ended : (r0 : Reader) (y : Spelled) (before : List Spelled) (p : Place) (more : List ℕ) (ms : List Sign) →
    (u : Under r0 (y ∷ before) p) →
    ReadRest (cut u.reader) [] more ms → ReadRest r0 (y ∷ before) (flushed (y ∷ before) ++ more) ms
read-ended r0 y before p more ms u h =
    let high : nat_lt (header (y ∷ before)) 128 ≡ false = header-high (y ∷ before) in
    record {
      told = read-frame (header (y ∷ before)) (content (y ∷ before)) more r0 high
          ∙ (ap (λ z. body_tells (between r0) (content (y ∷ before)) ++ read_parts (between (cut z.reader))
          (parts more)) u.next
          ∙ ap (λ z. body_tells (between r0) (content (y ∷ before)) ++ z) h.told);
      clean = clean-frame (header (y ∷ before)) (content (y ∷ before)) more r0 high u.clean
          (ap (λ z. part_noted z FrameEnd) u.next ∙ (Meets-quiet (running_of (y ∷ before)) u.reader p u.meets).1)
          (subst (λ z. CleanParts (between (cut z.reader)) (parts more)) (sym u.next) h.clean);
    }

abbrev pub all_from : ℕ → List Spelled → List Put → List ℕ
all_from n before puts = live_from n before puts ++ flushed (under_way_from n before puts)

-- The statement for the rest of the puts, whatever is under way.
abbrev ReadsAll : ℕ → List Put → Type 0
ReadsAll n puts = (r0 : Reader) (before : List Spelled) (p : Place) → Under r0 before p →
    Suit (is_opened p) (signs_in puts) →
    ReadRest r0 before (all_from n before puts) (late p (signs_in puts))

pub meets-start : (r0 : Reader) (p : Place) → Under r0 [] p → Meets None r0 p
meets-start r0 p u = subst (λ r. Meets None r p) (sym (ap (λ (z : Packeted). z.reader) u.next)) u.meets

read-none : (r0 : Reader) (p : Place) → Meets None r0 p → ReadRest r0 [] [] (owed p)
read-none r0 p m = record { told = (Meets-quiet None r0 p m).0; clean = (Meets-quiet None r0 p m).1 }

read-end : (n : ℕ) → ReadsAll n []
read-end n r0 [] p u su = read-none r0 p (meets-start r0 p u)
read-end n r0 (y ∷ before) p u su =
    subst (λ z. ReadRest r0 (y ∷ before) z (owed p)) (append-nil (flushed (y ∷ before)))
    (read-ended r0 y before p [] (owed p) u (read-none (cut u.reader) p (Meets-cut (running_of (y ∷ before)) u.reader p
    u.meets)))

read-flush : (n : ℕ) (puts : List Put) → ReadsAll n puts → ReadsAll n (Flush ∷ puts)
read-flush n puts ih r0 [] p u su = ih r0 [] p u su
read-flush n puts ih r0 (y ∷ before) p u su =
    subst (λ z. ReadRest r0 (y ∷ before) z (late p (signs_in puts)))
    (sym (append_assoc (flushed (y ∷ before)) (live_from n [] puts) (flushed (under_way_from n [] puts))))
    (read-ended r0 y before p (all_from n [] puts) (late p (signs_in puts)) u
    (ih (cut u.reader) [] p (under-new (cut u.reader) p (Meets-cut (running_of (y ∷ before)) u.reader p u.meets)) su))

-- a mark that goes on in the packet, or begins one
read-on : (n moment : ℕ) (mark : Sign) (puts : List Put) → is_abort mark ≡ false → ReadsAll n puts →
    (r0 : Reader) (before : List Spelled) (p : Place) → Under r0 before p →
    Suit (is_opened p) (mark ∷ signs_in puts) → ReadRest r0 before (all_from n (record {
      moment = moment;
      mark =
          mark;
    } ∷ before) puts) (late p (mark ∷ signs_in puts))
read-on n moment mark puts i ih r0 before p u su =
    let x : Spelled = record { moment = moment; mark = mark } in
    let m : More r0 before p moment mark = under-more r0 before p moment mark i su.0 u in
    let h : ReadRest r0 (x ∷ before) (all_from n (x ∷ before) puts) (late (place_after p mark) (signs_in puts)) =
    ih r0 (x ∷ before) (place_after p mark) m.under (subst (λ o. Suit o (signs_in puts)) (sym m.stands) su.1) in
    record {
      told = h.told ∙ (ap (λ z. z ++ late (place_after p mark) (signs_in puts)) m.told
          ∙ append_assoc (body_tells (between r0) (content before)) (late_at p mark) (late (place_after p mark)
          (signs_in puts)));
      clean = h.clean;
    }

abbrev pub spelled_from : ℕ → List Spelled → Spelled → Bool → List Put → List ℕ
spelled_from n before x c puts =
    ((if c then flushed before else []) ++ live_from n (if c then x ∷ [] else x ∷ before) puts) ++
    flushed (under_way_from n (if c then x ∷ [] else x ∷ before) puts)

read-choice : (n moment : ℕ) (mark : Sign) (puts : List Put) → is_abort mark ≡ false → ReadsAll n puts →
    (r0 : Reader) (before : List Spelled) (p : Place) → Under r0 before p →
    Suit (is_opened p) (mark ∷ signs_in puts) → (c : Bool) → written.ends n before (record {
      moment = moment;
      mark =
          mark;
    }) ≡ c →
    ReadRest r0 before (spelled_from n before (record { moment = moment; mark = mark }) c puts)
    (late p (mark ∷ signs_in puts))
read-choice n moment mark puts i ih r0 before p u su false e = read-on n moment mark puts i ih r0 before p u su
read-choice n moment mark puts i ih r0 [] p u su true e = absurd (false≢true e)
read-choice n moment mark puts i ih r0 (y ∷ before) p u su true e =
    let x : Spelled = record { moment = moment; mark = mark } in
    subst (λ z. ReadRest r0 (y ∷ before) z (late p (mark ∷ signs_in puts)))
    (sym (append_assoc (flushed (y ∷ before)) (live_from n (x ∷ []) puts)
    (flushed (under_way_from n (x ∷ []) puts))))
    (read-ended r0 y before p (all_from n (x ∷ []) puts) (late p (mark ∷ signs_in puts)) u
    (read-on n moment mark puts i ih (cut u.reader) [] p (under-new (cut u.reader) p
    (Meets-cut (running_of (y ∷ before)) u.reader p u.meets)) su))

read-spelled : (n moment : ℕ) (mark : Sign) (puts : List Put) → is_abort mark ≡ false → ReadsAll n puts →
    ReadsAll n (At moment mark ∷ puts)
read-spelled n moment mark puts i ih r0 before p u su =
    let x : Spelled = record { moment = moment; mark = mark } in
    let z = at_spelled n before moment mark i in
    subst (λ bs. ReadRest r0 before bs (late p (mark ∷ signs_in puts)))
    (sym (ap₂ (λ g w. (g ++ live_from n w puts) ++ flushed (under_way_from n w puts)) z.1 z.0))
    (read-choice n moment mark puts i ih r0 before p u su (written.ends n before x) refl)

read-abort : (n moment : ℕ) (puts : List Put) → ReadsAll n puts → ReadsAll n (At moment AbortSign ∷ puts)
read-abort n moment puts ih r0 before Closed u su = absurd su.0
read-abort n moment puts ih r0 before Opened u su =
    let h = ih r0 before Broke (under-broke r0 before u) su.1 in record { told = h.told; clean = h.clean }
read-abort n moment puts ih r0 before Broke u su = absurd su.0

reads-all : (n : ℕ) (puts : List Put) → ReadsAll n puts
reads-all n [] = read-end n
reads-all n (Flush ∷ puts) = read-flush n puts (reads-all n puts)
reads-all n (At m (ShortSign s a b) ∷ puts) = read-spelled n m (ShortSign s a b) puts refl (reads-all n puts)
reads-all n (At m (RtSign b) ∷ puts) = read-spelled n m (RtSign b) puts refl (reads-all n puts)
reads-all n (At m OpenSign ∷ puts) = read-spelled n m OpenSign puts refl (reads-all n puts)
reads-all n (At m (ByteSign b) ∷ puts) = read-spelled n m (ByteSign b) puts refl (reads-all n puts)
reads-all n (At m EndSign ∷ puts) = read-spelled n m EndSign puts refl (reads-all n puts)
reads-all n (At m AbortSign ∷ puts) = read-abort n m puts (reads-all n puts)

pub written-all : (n : ℕ) (puts : List Put) → ble_written n puts ≡ all_from n [] puts
written-all n puts = written_law n puts ∙ ap (λ z. z ++ flushed (under_way n puts)) (live_law n puts)

read-written : (n : ℕ) (puts : List Put) → Suit false (signs_in puts) → ReadRest Rest [] (ble_written n puts)
    (late Closed (signs_in puts))
read-written n puts su =
    subst (λ z. ReadRest Rest [] z (late Closed (signs_in puts))) (sym (written-all n puts)) (reads-all n puts Rest []
    Closed (under-new Rest Closed tt) su)

-- What is read of it: each abort late.
pub written-late : (n : ℕ) (puts : List Put) → suited (signs_in puts) ≡ true → AreValid (signs_in puts) →
    signs_of (ble_reading (ble_written n puts)) ≡ late Closed (signs_in puts)
written-late n puts s v = ble-signs (ble_written n puts) ∙ (read-written n puts (Suit-suited (signs_in puts) s v)).told

pub means : (n : ℕ) (puts : List Put) → suited (signs_in puts) ≡ true → AreValid (signs_in puts) →
    denotation (signs_of (ble_reading (ble_written n puts))) ≡ denotation (signs_in puts)
means n puts s v = ap denotation (written-late n puts s v) ∙ denotation-late (signs_in puts)
    (Suit-suited (signs_in puts) s v)

pub one_more : (n : ℕ) (puts : List Put) → suited (signs_in puts) ≡ true → AreValid (signs_in puts) →
    length (signs_of (ble_reading (ble_written n puts))) ≤ length (signs_in puts) + 1
one_more n puts s v =
    subst (λ xs. length xs ≤ length (signs_in puts) + 1) (sym (written-late n puts s v)) (length-late (signs_in puts)
    (Suit-suited (signs_in puts) s v))

pub clean : (n : ℕ) (puts : List Put) → suited (signs_in puts) ≡ true → AreValid (signs_in puts) →
    notes_of (ble_reading (ble_written n puts)) ≡ []
clean n puts s v = ble-notes (ble_written n puts) (read-written n puts (Suit-suited (signs_in puts) s v)).clean
