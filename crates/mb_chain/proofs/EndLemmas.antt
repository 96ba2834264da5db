-- The end of the input on its way through a row of hops.
use Rattle.std.proofs.Common.{◌≡◌, ℕ, ◌+◌, ◌<◌, ◌≤◌, ◌^◌, Bool, true, false, Option, Some, None, List, [], ◌∷◌, ◌++◌}
use Rattle.std.proofs.Common.{length, map, refl, sym, ◌∙◌, ap, subst, append_assoc, arith, length-append}
use Rattle.std.proofs.lemmas.List.{append-nil}
use Rattle.mb_message.specs.Signs.{ByteSign, suits_event, signs_of_event, IsRunOf}
use Rattle.mb_message.specs.declared.event.Ev.{Ev}
use Rattle.mb_message.specs.declared.event.Ev.TheVariants as event
use Rattle.mb_message.specs.declared.event.Seen.{Seen}
use Rattle.mb_message.specs.declared.event.Seen.TheVariants as seen
use Rattle.mb_stream.specs.Appended.{Appended}
use Rattle.mb_stream.specs.Groups.{Group, is_sysex, last_of}
use Rattle.mb_stream.specs.Puts.{Put, signs_in, puts_at}
use Rattle.mb_stream.specs.Standing.{suited}
use Rattle.mb_stream.specs.Told.{Known, Told, Marks, begun_at, truncated_end, broken_end}
use Rattle.mb_stream.proofs.PutsLemmas.{signs_in-more}
use Rattle.mb_stream.proofs.StandingLemmas.{apart}
use Rattle.mb_stream.specs.ReaderLaw.{answer, told_by}
use Rattle.mb_message.specs.Front.{IsFront, IsPart}
use Rattle.mb_outside.specs.TakingLaws.{part-within}
use Rattle.mb_stream.specs.Reading.{told_signs}
use Rattle.mb_carrier.specs.Carrier.{known, end_told, payload_of, puts_so_far, puts_of, last_byte_moment, end_moment}
use Rattle.mb_carrier.specs.Carrier.{live, written}
use Rattle.mb_carrier.specs.Conversion.{moments_of}
use Rattle.mb_carrier.specs.Hop.{HopStands, HaveMoment}
use Rattle.mb_carrier.specs.Port.{reader_spec, ReaderStands, writer_spec, WriterStands, writer_in_sysex}
use Rattle.mb_carrier.specs.declared.spec.Spec.{Spec}
use Rattle.mb_carrier.specs.declared.writer.PortWriter.{PortWriter}
use Rattle.mb_carrier.proofs.Fronts.{front-then}
use Rattle.mb_carrier.proofs.GrowLemmas.{held-moment, end-moment}
use Rattle.mb_carrier.proofs.GrowSpecs.{grows}
use Rattle.mb_carrier.proofs.PortLemmas.{open-by}
use Rattle.mb_carrier.proofs.ReadingLemmas.{told_signs-seen, puts-end, suited-all}
use Rattle.mb_carrier.proofs.SpecLaws.{reads}
use Rattle.mb_chain.specs.Row.{Link, link_of, hands_on, moments_on, writes_all, moments_all, live_over, through_over}
use Rattle.mb_chain.specs.Row.{HaveOne, RowStands, RowDone, IsEarly, EndsEarly, RowFed, RowHalted, RowEnded}
use Rattle.mb_chain.specs.Row.{RowEndHalted, LastPut}
use Rattle.mb_chain.specs.declared.hop.Hop.{Hop}
use Rattle.mb_chain.proofs.RowLemmas.{row-again, over-again, row-front, row-closes, early-front, early-short}
use Rattle.mb_chain.proofs.RowLemmas.{hop-closes}
use Rattle.mb_chain.proofs.FlowLemmas.{RowOf, MayFlow}

-- what the end tells is no run

short-by : (most : ℕ) (e : Ev) (o : Option ℕ) (c : Bool) →
    map Marks (signs_of_event e) ≡ truncated_end o ++ broken_end c → (map Marks (signs_of_event e) ≡ [] → ⊥) →
    IsRunOf most e
short-by most (event.Short s) o c told some = tt
short-by most (event.Rt r) o c told some = tt
short-by most event.Open o c told some = tt
short-by most event.End o c told some = tt
short-by most event.Abort o c told some = tt
short-by most (event.Run bytes) o c told some = no_run bytes.now o c told some
  where
    no_run : (bs : List ℕ) (o : Option ℕ) (c : Bool) → map Marks (map ByteSign bs) ≡ truncated_end o ++ broken_end c →
        (map Marks (map ByteSign bs) ≡ [] → ⊥) → (0 < length bs) × (length bs ≤ most)
    no_run [] o c told some = absurd (some refl)
    no_run (b ∷ bs) (Some at) c told some = cc
    no_run (b ∷ bs) None true told some = cc
    no_run (b ∷ bs) None false told some = cc

-- what the reader's end says: what it told, and when
pub record EndTold (s : Spec) (reader : List ℕ → List Known → Type 0) (moment at : ℕ) (told : List Told) : Type 0 where
  pub told_is : (bytes : List ℕ) → reader bytes (known s bytes) → told ≡ end_told s bytes
  pub moment_is : (bytes : List ℕ) → reader bytes (known s bytes) → (moments : ℕ → ℕ) →
      last_byte_moment moments (length bytes) ≡ moment → end_moment s moments bytes ≡ at

pub end-told : (s : Spec) (reader : List ℕ → List Known → Type 0) (now : ℕ → ℕ) (moment at : ℕ) (last : Option Seen)
    (told : List Told) → answer last ≡ told → at ≡ now moment →
    ((bytes : List ℕ) → reader bytes (known s bytes) → answer last ≡ end_told s bytes) →
    ((bytes : List ℕ) → reader bytes (known s bytes) → (moments : ℕ → ℕ) (moment_set : ℕ) →
    last_byte_moment moments (length bytes) ≡ moment_set →
    end_moment s moments bytes ≡ now moment_set) → EndTold s reader moment at told
end-told s reader now moment at last told same is says times = record {
  told_is = λ bytes h. sym same ∙ says bytes h;
  moment_is = λ bytes h moments e. times bytes h moments moment e ∙ sym is;
}

-- something that a hop stands for, its last byte having this moment
abbrev pub StandsAtEnd : Spec → (reader : List ℕ → List Known → Type 0) → (writer : List Put → Type 0) → ℕ → Type 0
StandsAtEnd s reader writer moment = (moments : ℕ → ℕ) × (bytes : List ℕ) × HopStands s moments reader writer bytes ×
    (last_byte_moment moments (length bytes) ≡ moment)

all-puts : (s : Spec) (reader : List ℕ → List Known → Type 0) (writer : List Put → Type 0) (moment at : ℕ) (e : Ev)
    (moments : ℕ → ℕ) (bytes : List ℕ) → EndTold s reader moment at (told_by (seen.Ev e)) →
    HopStands s moments reader writer bytes → last_byte_moment moments (length bytes) ≡ moment →
    puts_of s moments bytes ≡ puts_so_far s moments bytes ++ puts_at at (signs_of_event e)
all-puts s reader writer moment at e moments bytes told h last =
    puts-end s moments at bytes (told_by (seen.Ev e)) (told.told_is bytes h.reads)
    (told.moment_is bytes h.reads moments last)
    ∙ ap (λ ms. puts_so_far s moments bytes ++ puts_at at ms) (told_signs-seen (seen.Ev e))

pub last-suits : (s : Spec) (reader : List ℕ → List Known → Type 0) (w : PortWriter) (moment at : ℕ) (e : Ev) →
    EndTold s reader moment at (told_by (seen.Ev e)) →
    StandsAtEnd s reader (WriterStands w) moment → suits_event (writer_in_sysex w) e ≡ true
last-suits s reader w moment at e told stands =
    let moments : ℕ → ℕ = stands.0 in
    let bytes : List ℕ = stands.1 in
    let puts : List Put = puts_so_far s moments bytes in
    let all : puts_of s moments bytes ≡ puts ++ puts_at at (signs_of_event e) = all-puts s reader
    (WriterStands w) moment at e moments bytes told stands.2 stands.3 in
    let suits : suited (signs_in puts ++ signs_of_event e) ≡ true =
    ap suited (sym (signs_in-more puts at (signs_of_event e)))
    ∙ (ap (λ ps. suited (signs_in ps)) (sym all) ∙ suited-all s moments (reads s) bytes) in
    subst (λ (o : Bool). suits_event o e ≡ true) (sym (open-by w.carrier puts (stands.2).writes))
    (apart (signs_in puts) e suits)

pub last-short : (most : ℕ) (s : Spec) (reader : List ℕ → List Known → Type 0) (writer : List Put → Type 0)
    (moment at : ℕ) (e : Ev) → EndTold s reader moment at (told_by (seen.Ev e)) →
    (told_by (seen.Ev e) ≡ [] → ⊥) → StandsAtEnd s reader writer moment → IsRunOf most e
last-short most s reader writer moment at e told some stands =
    let g : Group = last_of (payload_of s stands.1) in
    short-by most e (begun_at g) (is_sysex g) (told.told_is stands.1 (stands.2).reads) some

-- it was put
pub last-put : (s t : Spec) (reader : List ℕ → List Known → Type 0) (writer writer_now : List Put → Type 0)
    (moment at : ℕ) (e : Ev) (held kept : List ℕ) →
    EndTold s reader moment at (told_by (seen.Ev e)) → held ≡ [] →
    ((puts : List Put) → writer puts → writer_now (puts ++ puts_at at (signs_of_event e))) →
    ((puts : List Put) → writer puts → Appended held kept (live t puts) (live t (puts ++ puts_at at
    (signs_of_event e)))) →
    (moments : ℕ → ℕ) (bytes : List ℕ) → HopStands s moments reader writer bytes →
    last_byte_moment moments (length bytes) ≡ moment →
    LastPut s t reader writer writer_now moment at kept moments bytes
last-put s t reader writer writer_now moment at e held kept told empty stands wrote = λ moments bytes h last.
    let puts : List Put = puts_so_far s moments bytes in
    let all : puts_of s moments bytes ≡ puts ++ puts_at at
    (signs_of_event e) = all-puts s reader writer moment at e moments bytes told h last in
    let a = wrote puts h.writes in
    record {
      moment_is = told.moment_is bytes h.reads moments last;
      stands = subst writer_now (sym all) (stands puts h.writes);
      wrote = ap (live t) all ∙ (a.beyond ∙ ap (λ xs. live t puts ++ xs) (sym (a.grown ∙ ap (λ xs. xs
          ++ a.wrote) empty)));
      given = (signs_of_event e, all);
    }

-- it told no mark
pub last-none : (s t : Spec) (reader : List ℕ → List Known → Type 0) (writer : List Put → Type 0) (moment at : ℕ)
    (told : List Told) (held : List ℕ) →
    EndTold s reader moment at told → held ≡ [] → told_signs told ≡ [] →
    (moments : ℕ → ℕ) (bytes : List ℕ) → HopStands s moments reader writer bytes →
    last_byte_moment moments (length bytes) ≡ moment → LastPut s t reader writer writer moment at held moments bytes
last-none s t reader writer moment at told held says empty no_marks = λ moments bytes h last.
    let puts : List Put = puts_so_far s moments bytes in
    let all : puts_of s moments bytes ≡ puts ++ [] =
    puts-end s moments at bytes told (says.told_is bytes h.reads) (says.moment_is bytes h.reads moments last)
    ∙ ap (λ ms. puts ++ puts_at at ms) no_marks in
    let same : puts_of s moments bytes ≡ puts = all ∙ append-nil puts in
    record {
      moment_is = says.moment_is bytes h.reads moments last;
      stands = subst writer (sym same) h.writes;
      wrote = ap (live t) same ∙ (sym (append-nil (live t puts)) ∙ ap (λ xs. live t puts ++ xs) (sym empty));
      given = ([], all);
    }

-- A hop at its end: `last` is what the marks of the end are written as, `rest` what the writer had held back, both at
-- one moment.
pub record Closing (l : Link) (at : ℕ) (last rest : List ℕ) (moments : ℕ → ℕ) (bytes : List ℕ) : Type 0 where
  pub put : live l.writes (puts_of l.reads moments bytes) ≡ hands_on l moments bytes ++ last
  pub closed : writes_all l moments bytes ≡ live l.writes (puts_of l.reads moments bytes) ++ rest
  pub last_at : HaveMoment (moments_all l moments bytes) (length (hands_on l moments bytes)) (length last) at
  pub rest_at : HaveMoment (moments_all l moments bytes) (length (hands_on l moments bytes ++ last)) (length rest) at

-- what a hop says of its end, whatever it stands for
abbrev pub PutsLast : Hop → (writer_now : List Put → Type 0) → (at : ℕ) → List ℕ → Type 0
PutsLast h writer_now at last =
    (moments : ℕ → ℕ) (bytes : List ℕ) → HopStands (reader_spec h.reader) moments (ReaderStands h.reader)
    (WriterStands h.writer) bytes →
    last_byte_moment moments (length bytes) ≡ h.last →
    LastPut (reader_spec h.reader) (writer_spec h.writer) (ReaderStands h.reader)
    (WriterStands h.writer) writer_now h.last at last moments bytes

last-at : (h : Hop) (hs : List Hop) (writer_now : List Put → Type 0) (at : ℕ) (last : List ℕ) →
    PutsLast h writer_now at last → (moments : ℕ → ℕ) (bytes : List ℕ) → RowOf h hs moments bytes →
    HaveMoment (moments_all (link_of h) moments bytes) (length (hands_on (link_of h) moments bytes)) (length last) at
last-at h hs writer_now at last put moments bytes row =
    let l : Link = link_of h in
    let p = put moments bytes (row.0).stands (sym (row.0).last) in
    let puts : List Put = puts_so_far l.reads moments bytes in
    let all : puts_of l.reads moments bytes ≡ (puts ++ puts_at at (p.given).0) ++ [] = (p.given).1
    ∙ sym (append-nil (puts ++ puts_at at (p.given).0)) in
    let suits : suited (signs_in ((puts ++ puts_at at (p.given).0) ++ []))
    ≡ true = ap (λ ps. suited (signs_in ps)) (sym all) ∙ suited-all l.reads moments (reads l.reads) bytes in
    subst (λ (ps : List Put). HaveMoment (moments_of l.writes (end_moment l.reads moments bytes) ps)
    (length (hands_on l moments bytes)) (length last) at) (sym all)
    (held-moment l.writes (grows l.writes) (end_moment l.reads moments bytes) puts at (p.given).0 []
    (hands_on l moments bytes) last suits refl (ap (live l.writes) (sym (p.given).1) ∙ p.wrote))

pub closing : (h : Hop) (hs : List Hop) (other : Spec) (writer_now : List Put → Type 0) (at : ℕ)
    (last held rest : List ℕ) → other ≡ writer_spec h.writer → PutsLast h writer_now at last →
    held ≡ [] → ((puts : List Put) → writer_now puts → Appended held rest (live other puts) (written other puts)) →
    (moments : ℕ → ℕ) (bytes : List ℕ) → RowOf h hs moments bytes → Closing (link_of h) at last rest moments bytes
closing h hs other writer_now at last held rest same put empty closes moments bytes row =
    let l : Link = link_of h in
    let p = put moments bytes (row.0).stands (sym (row.0).last) in
    let puts : List Put = puts_of l.reads moments bytes in
    let a = subst (λ (u : Spec). Appended held rest (live u puts) (written u puts)) same (closes puts p.stands) in
    record {
      put = p.wrote;
      closed = a.beyond ∙ ap (λ xs. live l.writes puts ++ xs) (sym (a.grown ∙ ap (λ xs. xs ++ a.wrote) empty));
      last_at = last-at h hs writer_now at last put moments bytes row;
      rest_at =
          subst (λ (n : ℕ). HaveMoment (moments_all l moments bytes) (length (hands_on l moments bytes ++ last))
          (length rest) n) p.moment_is
          (end-moment l.writes (grows l.writes) (end_moment l.reads moments bytes) puts
          (length (hands_on l moments bytes ++ last)) (length rest)
          (suited-all l.reads moments (reads l.reads) bytes)
          (omega (arith, ap length p.wrote)));
    }

-- a row has hops or none
have-one : (links : List Link) (m : ℕ → ℕ) (from count at : ℕ) → HaveMoment m from count at →
    HaveOne links m from count at
have-one [] m from count at h = tt
have-one (l ∷ ls) m from count at h = h

-- the hops behind stand with the moments that all will have
behind-all : (h : Hop) (hs : List Hop) (moments : ℕ → ℕ) (bytes : List ℕ) → RowOf h hs moments bytes →
    RowStands hs (moments_all (link_of h) moments bytes) (hands_on (link_of h) moments bytes)
behind-all h hs moments bytes row =
    row-again hs (moments_on (link_of h) moments bytes) (moments_all (link_of h) moments bytes)
    (hands_on (link_of h) moments bytes) (hop-closes (link_of h) moments bytes).agree row.1

-- all that is written, in three
all-written : (l : Link) (at : ℕ) (last rest : List ℕ) (moments : ℕ → ℕ) (bytes : List ℕ) →
    Closing l at last rest moments bytes → writes_all l moments bytes ≡ (hands_on l moments bytes ++ last) ++ rest
all-written l at last rest moments bytes c = c.closed ∙ ap (λ xs. xs ++ rest) c.put

-- what the marks of the end are written as is a front of what all is written as
put-front : (h : Hop) (hs : List Hop) (writer_now : List Put → Type 0) (at : ℕ) (last : List ℕ) (moments : ℕ → ℕ)
    (bytes : List ℕ) → PutsLast h writer_now at last → RowOf h hs moments bytes →
    IsFront (hands_on (link_of h) moments bytes ++ last) (writes_all (link_of h) moments bytes)
put-front h hs writer_now at last moments bytes put row =
    let l : Link = link_of h in
    let p = put moments bytes (row.0).stands (sym (row.0).last) in
    let f = (grows l.writes).closes (puts_of l.reads moments bytes)
    (suited-all l.reads moments (reads l.reads) bytes) in
    (f.0, f.1 ∙ ap (λ xs. xs ++ f.0) p.wrote)

-- something that a row was handed, and that may end
abbrev pub MayEnd : List Link → (was : (ℕ → ℕ) → List ℕ → Type 0) → Type 0
MayEnd links was = (moments : ℕ → ℕ) × (before : List ℕ) × was moments before × EndsEarly links moments before

-- what is handed on may be
pub last-may : (links : List Link) (h : Hop) (hs : List Hop) (writer_now : List Put → Type 0) (at : ℕ)
    (last : List ℕ) → PutsLast h writer_now at last → MayEnd (link_of h ∷ links) (RowOf h hs) →
    MayFlow links (RowStands hs) at last
last-may links h hs writer_now at last put w =
    let l : Link = link_of h in
    let first : List ℕ = hands_on l w.0 w.1 in
    let then : ℕ → ℕ = moments_all l w.0 w.1 in (
      then,
      first,
      behind-all h hs w.0 w.1 w.2,
      early-front links then (first ++ last) (writes_all l w.0 w.1)
          (put-front h hs writer_now at last w.0 w.1 put w.2) (w.3).0,
      have-one links then (length first) (length last) at (last-at h hs writer_now at last put w.0 w.1 w.2),
    )

pub put-small : (links : List Link) (h : Hop) (hs : List Hop) (writer_now : List Put → Type 0) (at : ℕ)
    (last : List ℕ) → PutsLast h writer_now at last → MayEnd (link_of h ∷ links) (RowOf h hs) →
    h.wrote + length last ≤ 2 ^ 51 + 2 ^ 14
put-small links h hs writer_now at last put w =
    let l : Link = link_of h in
    let first : List ℕ = hands_on l w.0 w.1 in
    let f = put-front h hs writer_now at last w.0 w.1 put w.2 in
    omega (
      arith,
      early-short links (moments_all l w.0 w.1) (writes_all l w.0 w.1) (w.3).0,
      ap length f.1,
      length-append (first ++ last) f.0,
      length-append first last,
      ((w.2).0).wrote,
    )

abbrev pub Closes : Hop → List Hop → (at : ℕ) (last rest : List ℕ) → Type 0
Closes h hs at last rest = (moments : ℕ → ℕ) (bytes : List ℕ) → RowOf h hs moments bytes →
    Closing (link_of h) at last rest moments bytes

pub rest-may : (links : List Link) (h : Hop) (hs : List Hop) (behind : (ℕ → ℕ) → List ℕ → Type 0) (at : ℕ)
    (last rest : List ℕ) (took : List ℕ → Type 0) → Closes h hs at last rest →
    RowFed links (RowStands hs) behind at last took → MayEnd (link_of h ∷ links) (RowOf h hs) →
    MayFlow links behind at rest
rest-may links h hs behind at last rest took closes fed w =
    let l : Link = link_of h in
    let c = closes w.0 w.1 w.2 in
    let first : List ℕ = hands_on l w.0 w.1 in
    let then : ℕ → ℕ = moments_all l w.0 w.1 in (
      then,
      first ++ last,
      fed.stands then first (behind-all h hs w.0 w.1 w.2)
          (have-one links then (length first) (length last) at c.last_at),
      subst (IsEarly links then) (all-written l at last rest w.0 w.1 c) (w.3).0,
      have-one links then (length (first ++ last)) (length rest) at c.rest_at,
    )

-- what went through behind
stood : (links : List Link) (h : Hop) (hs : List Hop) (mid behind : (ℕ → ℕ) → List ℕ → Type 0) (at : ℕ)
    (last rest : List ℕ) (took took_second : List ℕ → Type 0) → Closes h hs at last rest →
    RowFed links (RowStands hs) mid at last took → RowFed links mid behind at rest took_second →
    (moments : ℕ → ℕ) (bytes : List ℕ) → RowOf h hs moments bytes →
    behind (moments_all (link_of h) moments bytes) (writes_all (link_of h) moments bytes)
stood links h hs mid behind at last rest took took_second closes a b moments bytes row =
    let l : Link = link_of h in
    let c = closes moments bytes row in
    let first : List ℕ = hands_on l moments bytes in
    let then : ℕ → ℕ = moments_all l moments bytes in
    subst (behind then) (sym (all-written l at last rest moments bytes c))
    (b.stands then (first ++ last) (a.stands then first (behind-all h hs moments bytes row) (have-one links then
    (length first) (length last) at c.last_at))
    (have-one links then (length (first ++ last)) (length rest) at c.rest_at))

pub end-may : (links : List Link) (h : Hop) (hs : List Hop) (mid behind : (ℕ → ℕ) → List ℕ → Type 0) (at : ℕ)
    (last rest : List ℕ) (took took_second : List ℕ → Type 0) → Closes h hs at last rest →
    RowFed links (RowStands hs) mid at last took → RowFed links mid behind at rest took_second →
    MayEnd (link_of h ∷ links) (RowOf h hs) → MayEnd links behind
end-may links h hs mid behind at last rest took took_second closes a b w = (
  moments_all (link_of h) w.0 w.1,
  writes_all (link_of h) w.0 w.1,
  stood links h hs mid behind at last rest took took_second closes a b w.0 w.1 w.2,
  (w.3).1,
)

-- the numbers of bytes written stay small
pub last-small : (links : List Link) (h : Hop) (hs : List Hop) (at : ℕ) (last rest : List ℕ) →
    Closes h hs at last rest → MayEnd (link_of h ∷ links) (RowOf h hs) →
    h.wrote + length last + length rest ≤ 2 ^ 51 + 2 ^ 14
last-small links h hs at last rest closes w =
    let l : Link = link_of h in
    let first : List ℕ = hands_on l w.0 w.1 in
    let all = all-written l at last rest w.0 w.1 (closes w.0 w.1 w.2) in
    omega (
      arith,
      early-short links (moments_all l w.0 w.1) (writes_all l w.0 w.1) (w.3).0,
      ap length all,
      length-append (first ++ last) rest,
      length-append first last,
      ((w.2).0).wrote,
    )

-- what went out so far, of the hops behind
went : (links : List Link) (h : Hop) (hs : List Hop) (mid : (ℕ → ℕ) → List ℕ → Type 0) (at : ℕ) (last rest : List ℕ)
    (took : List ℕ → Type 0) → Closes h hs at last rest →
    (a : RowFed links (RowStands hs) mid at last took) → (moments : ℕ → ℕ) (bytes : List ℕ) → RowOf h hs moments bytes →
    live_over links (moments_all (link_of h) moments bytes) (hands_on (link_of h) moments bytes ++ last)
    ≡ live_over links (moments_on (link_of h) moments bytes) (hands_on (link_of h) moments bytes) ++ a.given
went links h hs mid at last rest took closes a moments bytes row =
    let l : Link = link_of h in
    let c = closes moments bytes row in
    let first : List ℕ = hands_on l moments bytes in
    let then : ℕ → ℕ = moments_all l moments bytes in
    a.beyond then first (behind-all h hs moments bytes row)
    (have-one links then (length first) (length last) at c.last_at)
    ∙ ap (λ xs. xs ++ a.given) (sym (over-again links (moments_on l moments bytes) then first
    (hop-closes l moments bytes).agree))

went-on : (links : List Link) (h : Hop) (hs : List Hop) (mid behind : (ℕ → ℕ) → List ℕ → Type 0) (at : ℕ)
    (last rest : List ℕ) (took took_second : List ℕ → Type 0) → Closes h hs at last rest →
    (a : RowFed links (RowStands hs) mid at last took) (b : RowFed links mid behind at rest took_second) →
    (moments : ℕ → ℕ) (bytes : List ℕ) → RowOf h hs moments bytes →
    live_over links (moments_all (link_of h) moments bytes) (writes_all (link_of h) moments bytes)
    ≡ (live_over links (moments_on (link_of h) moments bytes) (hands_on (link_of h) moments bytes) ++ a.given)
    ++ b.given
went-on links h hs mid behind at last rest took took_second closes a b moments bytes row =
    let l : Link = link_of h in
    let c = closes moments bytes row in
    let first : List ℕ = hands_on l moments bytes in
    let then : ℕ → ℕ = moments_all l moments bytes in
    ap (live_over links then) (all-written l at last rest moments bytes c)
    ∙ (b.beyond then (first ++ last) (a.stands then first (behind-all h hs moments bytes row) (have-one links then
    (length first) (length last) at c.last_at))
    (have-one links then (length (first ++ last)) (length rest) at c.rest_at)
    ∙ ap (λ xs. xs ++ b.given) (went links h hs mid at last rest took closes a moments bytes row))

regroup : (w x y z : List ℕ) → ((w ++ x) ++ y) ++ z ≡ w ++ (x ++ (y ++ z))
regroup w x y z = simp append_assoc

-- all of it went through
pub end-ended : (links : List Link) (h h_now : Hop) (hs hs_now : List Hop) (mid behind : (ℕ → ℕ) → List ℕ → Type 0)
    (at : ℕ) (last rest : List ℕ) (took_first took_second took_third took : List ℕ → Type 0) →
    ((x y z : List ℕ) → took_first x → took_second y → took_third z → took (x ++ (y ++ z))) →
    reader_spec h_now.reader ≡ reader_spec h.reader → writer_spec h_now.writer ≡ writer_spec h.writer →
    h_now.wrote ≡ h.wrote + length last + length rest → Closes h hs at last rest →
    RowFed links (RowStands hs) mid at last took_first → RowFed links mid behind at rest took_second →
    RowEnded links behind (RowDone hs_now) took_third →
    RowEnded (link_of h ∷ links) (RowOf h hs) (RowDone (h_now ∷ hs_now)) took
end-ended links h h_now hs hs_now mid behind at last rest took_first took_second took_third took all_took reads_same
    writes_same count closes a b e =
    let l : Link = link_of h in
    let same : link_of h_now ≡ l = λ i. record { reads = reads_same i; writes = writes_same i } in
    record {
      given = a.given ++ (b.given ++ e.given);
      took_it = all_took a.given b.given e.given a.took_it b.took_it e.took_it;
      counted = λ moments bytes row.
          let first : List ℕ = hands_on l moments bytes in
          let all = all-written l at last rest moments bytes (closes moments bytes row) in
          let size : h_now.wrote ≡ length (writes_all l moments bytes) =
          omega (
            arith,
            count,
            (row.0).wrote,
            ap length all,
            length-append (first ++ last) rest,
            length-append first last,
          ) in
          let done : RowDone hs_now (moments_all l moments bytes) (writes_all l moments bytes) =
          e.counted (moments_all l moments bytes) (writes_all l moments bytes)
          (stood links h hs mid behind at last rest took_first took_second closes a b moments bytes row) in
          subst (λ (k : Link). (h_now.wrote ≡ length (writes_all k moments bytes)) ×
          RowDone hs_now (moments_all k moments bytes) (writes_all k moments bytes)) (sym same) (size, done);
      beyond = λ moments bytes row.
          e.beyond (moments_all l moments bytes) (writes_all l moments bytes)
          (stood links h hs mid behind at last rest took_first took_second closes a b moments bytes row)
          ∙ (ap (λ xs. xs ++ e.given)
          (went-on links h hs mid behind at last rest took_first took_second closes a b moments bytes row)
          ∙ regroup (live_over links (moments_on l moments bytes) (hands_on l moments bytes)) a.given b.given e.given);
    }

-- the taker refused some of it

pub end-halted_last : (links : List Link) (h : Hop) (hs : List Hop) (writer_now : List Put → Type 0) (at : ℕ)
    (last : List ℕ) (took : List ℕ → Type 0) → PutsLast h writer_now at last →
    RowHalted links (RowStands hs) at last took → RowEndHalted (link_of h ∷ links) (RowOf h hs) took
end-halted_last links h hs writer_now at last took put halted =
    record {
      given = halted.given;
      took_it = halted.took_it;
      front = λ moments bytes row.
          let l : Link = link_of h in
          let first : List ℕ = hands_on l moments bytes in
          let then : ℕ → ℕ = moments_all l moments bytes in
          let whole : List ℕ = writes_all l moments bytes in
          let f = halted.front then first (behind-all h hs moments bytes row)
          (have-one links then (length first) (length last) at
          (last-at h hs writer_now at last put moments bytes row)) in
          subst (λ (xs : List ℕ). IsPart (xs ++ halted.given) (through_over links then whole))
          (sym (over-again links (moments_on l moments bytes) then first (hop-closes l moments bytes).agree))
          (part-within _ _ _ f (front-then _ _ _ (row-front links then (first ++ last) whole
          (put-front h hs writer_now at last moments bytes put row)) (row-closes links then whole)));
    }

pub end-halted_rest : (links : List Link) (h : Hop) (hs : List Hop) (mid : (ℕ → ℕ) → List ℕ → Type 0) (at : ℕ)
    (last rest : List ℕ) (took_first took_second took : List ℕ → Type 0) →
    ((x y : List ℕ) → took_first x → took_second y → took (x ++ y)) → Closes h hs at last rest →
    RowFed links (RowStands hs) mid at last took_first → RowHalted links mid at rest took_second →
    RowEndHalted (link_of h ∷ links) (RowOf h hs) took
end-halted_rest links h hs mid at last rest took_first took_second took both closes a halted =
    record {
      given = a.given ++ halted.given;
      took_it = both a.given halted.given a.took_it halted.took_it;
      front = λ moments bytes row.
          let l : Link = link_of h in
          let c = closes moments bytes row in
          let first : List ℕ = hands_on l moments bytes in
          let then : ℕ → ℕ = moments_all l moments bytes in
          let whole : List ℕ = writes_all l moments bytes in
          let g = halted.front then (first ++ last)
          (a.stands then first (behind-all h hs moments bytes row)
          (have-one links then (length first) (length last) at c.last_at))
          (have-one links then (length (first ++ last)) (length rest) at c.rest_at) in
          let f = part-within _ _ _ (subst (λ (xs : List ℕ). IsPart (live_over links then (first ++ last)
          ++ halted.given) (live_over links then xs)) (sym (all-written l at last rest moments bytes c)) g)
          (row-closes links then whole) in
          subst (λ (xs : List ℕ). IsPart xs (through_over links then whole))
          (ap (λ xs. xs ++ halted.given) (went links h hs mid at last rest took_first closes a moments bytes row)
          ∙ append_assoc (live_over links (moments_on l moments bytes) first) a.given halted.given) f;
    }

pub end-halted_behind : (links : List Link) (h : Hop) (hs : List Hop) (mid behind : (ℕ → ℕ) → List ℕ → Type 0)
    (at : ℕ) (last rest : List ℕ) (took_first took_second took_third took : List ℕ → Type 0) →
    ((x y z : List ℕ) → took_first x → took_second y → took_third z → took (x ++ (y ++ z))) → Closes h hs at last rest →
    RowFed links (RowStands hs) mid at last took_first → RowFed links mid behind at rest took_second →
    RowEndHalted links behind took_third → RowEndHalted (link_of h ∷ links) (RowOf h hs) took
end-halted_behind links h hs mid behind at last rest took_first took_second took_third took all_took closes a b halted =
    record {
      given = a.given ++ (b.given ++ halted.given);
      took_it = all_took a.given b.given halted.given a.took_it b.took_it halted.took_it;
      front = λ moments bytes row.
          let l : Link = link_of h in
          let then : ℕ → ℕ = moments_all l moments bytes in
          let whole : List ℕ = writes_all l moments bytes in
          let f = halted.front then whole
          (stood links h hs mid behind at last rest took_first took_second closes a b moments bytes row) in
          subst (λ (xs : List ℕ). IsPart xs (through_over links then whole))
          (ap (λ xs. xs ++ halted.given)
          (went-on links h hs mid behind at last rest took_first took_second closes a b moments bytes row)
          ∙ regroup (live_over links (moments_on l moments bytes)
          (hands_on l moments bytes)) a.given b.given halted.given) f;
    }

-- a row by its first hop

pub first-end : (hops : List Hop) (h : Hop) (behind : List Hop) → hops ≡ h ∷ behind →
    MayEnd (map link_of hops) (RowStands hops) → MayEnd (link_of h ∷ map link_of behind) (RowOf h behind)
first-end hops h behind same w = subst (λ (hs : List Hop). MayEnd (map link_of hs) (RowStands hs)) same w

pub first-ended : (hops : List Hop) (h : Hop) (behind : List Hop) (done : (ℕ → ℕ) → List ℕ → Type 0)
    (took : List ℕ → Type 0) → hops ≡ h ∷ behind →
    RowEnded (link_of h ∷ map link_of behind) (RowOf h behind) done took →
    RowEnded (map link_of hops) (RowStands hops) done took
first-ended hops h behind done took same f = subst
    (λ (hs : List Hop). RowEnded (map link_of hs) (RowStands hs) done took) (sym same) f

pub first-end_halted : (hops : List Hop) (h : Hop) (behind : List Hop) (took : List ℕ → Type 0) → hops ≡ h ∷ behind →
    RowEndHalted (link_of h ∷ map link_of behind) (RowOf h behind) took →
    RowEndHalted (map link_of hops) (RowStands hops) took
first-end_halted hops h behind took same f = subst
    (λ (hs : List Hop). RowEndHalted (map link_of hs) (RowStands hs) took) (sym same) f

pub may_end-links : (links other : List Link) (was : (ℕ → ℕ) → List ℕ → Type 0) → other ≡ links → MayEnd links was →
    MayEnd other was
may_end-links links other was same w = subst (λ (ls : List Link). MayEnd ls was) (sym same) w

pub ended-links : (links other : List Link) (was done : (ℕ → ℕ) → List ℕ → Type 0) (took : List ℕ → Type 0) →
    other ≡ links → RowEnded other was done took → RowEnded links was done took
ended-links links other was done took same e = subst (λ (ls : List Link). RowEnded ls was done took) same e

pub end_halted-links : (links other : List Link) (was : (ℕ → ℕ) → List ℕ → Type 0) (took : List ℕ → Type 0) →
    other ≡ links → RowEndHalted other was took → RowEndHalted links was took
end_halted-links links other was took same e = subst (λ (ls : List Link). RowEndHalted ls was took) same e

-- what the last hop stands for, for its end
pub row-at_end : (h : Hop) (hs : List Hop) (links : List Link) → MayEnd (link_of h ∷ links) (RowOf h hs) →
    StandsAtEnd (reader_spec h.reader) (ReaderStands h.reader) (WriterStands h.writer) h.last
row-at_end h hs links w = (w.0, w.1, ((w.2).0).stands, sym ((w.2).0).last)
