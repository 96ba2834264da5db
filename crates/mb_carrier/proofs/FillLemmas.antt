-- A piece on its way through a hop into a buffer.
use Rattle.std.proofs.Common.{◌≡◌, ℕ, Bool, true, false, ◌&&◌, List, [], ◌∷◌, ◌++◌, map, take, drop, length, refl, sym}
use Rattle.std.proofs.Common.{◌∙◌, ap, subst, append_assoc}
use Rattle.std.proofs.lemmas.List.{append-nil, map-append, take-append-drop}
use Rattle.std.specs.List.{list_all}
use Rattle.mb_message.specs.Signs.{Sign, ByteSign, suits_sign}
use Rattle.mb_message.specs.declared.event.Seen.{Seen}
use Rattle.mb_stream.specs.Standing.{suited, is_open}
use Rattle.mb_stream.specs.Told.{Known, Told}
use Rattle.mb_stream.specs.Appended.{Appended}
use Rattle.mb_stream.specs.Puts.{Put, signs_in, puts_at}
use Rattle.mb_stream.proofs.PutsLemmas.{signs_in-more}
use Rattle.mb_stream.proofs.StandingLemmas.{both}
use Rattle.mb_stream.specs.ReaderLaw.{told_by}
use Rattle.mb_message.specs.Front.{IsFront}
use Rattle.mb_stream.specs.Reading.{told_signs}
use Rattle.mb_carrier.specs.Carrier.{known, puts_known, puts_so_far, live}
use Rattle.mb_carrier.specs.Hop.{Puts, HopStands, HaveMoment, MayCome, seen_signs}
use Rattle.mb_carrier.specs.Fill.{PutSome, Flows, UsedUp, AllAt, More}
use Rattle.mb_carrier.specs.declared.spec.Spec.{Spec}
use Rattle.mb_carrier.proofs.PutLemmas.{puts_known-append, puts_known-at, puts_at-append, puts-all, moments-left}
use Rattle.mb_carrier.proofs.ReadingLemmas.{Goes, goes-spec, Reads, suited-so_far, puts-front, told_signs-seen}
use Rattle.mb_carrier.proofs.ReadingLemmas.{may_come, no_told}

-- putting in steps

pub put_some-none : (live : List Put → List ℕ) (was : List Put → Type 0) (at : ℕ) (left held : List ℕ) →
    PutSome live was was at (map ByteSign left) left held held
put_some-none live was at left held =
    record {
      done = [];
      cut = refl;
      goes = λ before base w e. record {
        stands = subst was (sym (append-nil before)) w;
        bytes = ap live
            (append-nil before) ∙ e;
      };
    }

-- one event was put
pub put_some-one : (live : List Put → List ℕ) (was now : List Put → Type 0) (at : ℕ) (signs : List Sign)
    (held kept : List ℕ) →
    ((puts : List Put) → was puts → now (puts ++ puts_at at signs)) →
    ((puts : List Put) → was puts → Appended held kept (live puts) (live (puts ++ puts_at at signs))) →
    PutSome live was now at signs [] held kept
put_some-one live was now at signs held kept stands written =
    record {
      done = signs;
      cut = sym (append-nil signs);
      goes = puts-all live was now
          (puts_at at signs) held kept stands written;
    }

more-at : (at : ℕ) (before : List Put) (xs ys : List Sign) →
    (before ++ puts_at at xs) ++ puts_at at ys ≡ before ++ puts_at at (xs ++ ys)
more-at at before xs ys = append_assoc before (puts_at at xs) (puts_at at ys)
    ∙ ap (λ ps. before ++ ps) (sym (puts_at-append at xs ys))

-- a front of a run was put, and then one more piece of it; the second writer is one of the same spec
pub put_some-more : (s other : Spec) (was mid now : List Put → Type 0) (at : ℕ)
    (run rest piece left held between kept : List ℕ) → other ≡ s →
    PutSome (live s) was mid at (map ByteSign run) rest held between → rest ≡ piece ++ left →
    PutSome (live other) mid now at (map ByteSign piece) [] between kept →
    PutSome (live s) was now at (map ByteSign run) left held kept
put_some-more s other was mid now at run rest piece left held between kept same a cut more =
    let b = subst (λ (u : Spec). PutSome (live u) mid now at (map ByteSign piece) [] between kept) same more in
    let all : map ByteSign piece ≡ b.done = b.cut ∙ append-nil b.done in
    record {
      done = a.done ++ b.done;
      cut =
          a.cut
          ∙ (ap (λ xs. a.done ++ map ByteSign xs) cut
          ∙ (ap (λ ms. a.done ++ ms) (map-append ByteSign piece left ∙ ap (λ ms. ms ++ map ByteSign left) all)
          ∙ sym (append_assoc a.done b.done (map ByteSign left))));
      goes = λ before base w e.
          let p = a.goes before base w e in
          let q = b.goes (before ++ puts_at at a.done) base p.stands p.bytes in
          record {
            stands = subst now (more-at at before a.done b.done) q.stands;
            bytes = ap (live s) (sym (more-at at before a.done b.done)) ∙ q.bytes;
          };
    }

-- a run in two pieces
pub cut_at : (n : ℕ) (rest piece others : List ℕ) → piece ≡ take n rest → others ≡ drop n rest → rest ≡ piece ++ others
cut_at n rest piece others front back = sym (take-append-drop n rest)
    ∙ (ap (λ xs. xs ++ drop n rest) (sym front) ∙ ap (λ xs. piece ++ xs) (sym back))

-- data that may come may come in pieces

with_both : (a b : Bool) → a ≡ true → b ≡ true → (a && b) ≡ true
with_both true true e f = refl
with_both true false e f = f
with_both false b e f = e

pub may_come-front : (in_sysex : Bool) (piece left : List ℕ) → MayCome in_sysex (map ByteSign (piece ++ left)) →
    MayCome in_sysex (map ByteSign piece)
may_come-front in_sysex [] left h = refl
may_come-front in_sysex (b ∷ bs) left h =
    let e = both (suits_sign in_sysex (ByteSign b)) (list_all (suits_sign in_sysex) (map ByteSign (bs ++ left))) h in
    with_both (suits_sign in_sysex (ByteSign b)) (list_all (suits_sign in_sysex) (map ByteSign bs)) e.0
    (may_come-front in_sysex bs left e.1)

pub may_come-back : (in_sysex : Bool) (piece left : List ℕ) → MayCome in_sysex (map ByteSign (piece ++ left)) →
    MayCome in_sysex (map ByteSign left)
may_come-back in_sysex [] left h = h
may_come-back in_sysex (b ∷ bs) left h =
    let e = both (suits_sign in_sysex (ByteSign b)) (list_all (suits_sign in_sysex) (map ByteSign (bs ++ left))) h in
    may_come-back in_sysex bs left e.1

-- the bytes on their way

-- marks of one moment where moments are kept apart

pub all_at-one : (apart : Bool) (at m : ℕ) (signs : List Sign) → (apart ≡ true → m ≡ at) →
    AllAt apart at (puts_at m signs)
all_at-one apart at m signs e = λ yes. (signs, ap (λ k. puts_at k signs) (e yes))

pub all_at-both : (apart : Bool) (at : ℕ) (xs ys : List Put) → AllAt apart at xs → AllAt apart at ys →
    AllAt apart at (xs ++ ys)
all_at-both apart at xs ys e f = λ yes.
    let a = e yes in
    let b = f yes in
    (a.0 ++ b.0, ap (λ ps. ps ++ ys) a.1 ∙ (ap (λ ps. puts_at at a.0 ++ ps) b.1 ∙ sym (puts_at-append at a.0 b.0)))

-- some marks more were put since the list was `puts`
abbrev pub FlowsMore : (s t : Spec) (moments : ℕ → ℕ) (moment : ℕ) (apart : Bool) (at : ℕ)
    (reader : List ℕ → List Known → Type 0) (writer : List Put → Type 0) (bytes rest : List ℕ) (owes puts : List Put)
    (base held : List ℕ) → Type 0
FlowsMore s t moments moment apart at reader writer bytes rest owes puts base held =
    (done : List Put) × AllAt apart at done ×
    Flows s t moments moment reader writer bytes rest owes (puts ++ done) base held

pub flows-none : (s t : Spec) (moments : ℕ → ℕ) (moment : ℕ) (apart : Bool) (at : ℕ)
    (reader : List ℕ → List Known → Type 0) (writer : List Put → Type 0) (bytes rest : List ℕ) (owes puts : List Put)
    (base held : List ℕ) →
    Flows s t moments moment reader writer bytes rest owes puts base held →
    FlowsMore s t moments moment apart at reader writer bytes rest owes puts base held
flows-none s t moments moment apart at reader writer bytes rest owes puts base held f = (
  [],
  λ yes. ([], refl),
  subst (λ
      (ps : List Put). Flows s t moments moment reader writer bytes rest owes ps base held) (sym (append-nil puts)) f,
)

-- of what is owed a front was put; the second writer is one of the same spec
pub flows-put : (s t other : Spec) (moments : ℕ → ℕ) (moment : ℕ) (apart : Bool) (at m : ℕ)
    (reader : List ℕ → List Known → Type 0) (writer writer_now : List Put → Type 0) (bytes rest : List ℕ)
    (owes : List Sign) (left : List ℕ) (puts : List Put) (base held kept : List ℕ) → other ≡ t →
    (apart ≡ true → m ≡ at) →
    PutSome (live other) writer writer_now m owes left held kept →
    FlowsMore s t moments moment apart at reader writer bytes rest (puts_at m owes) puts base held →
    FlowsMore s t moments moment apart at reader writer_now bytes rest (puts_at m (map ByteSign left)) puts base kept
flows-put s t other moments moment apart at m reader writer writer_now bytes rest owes left puts base held kept same
    stays put more =
    let f = more.2 in
    let p = subst (λ (u : Spec). PutSome (live u) writer writer_now m owes left held kept) same put in
    let q = p.goes (puts ++ more.0) base f.writes f.live_is in
    let all : (puts ++ more.0) ++ puts_at m p.done
    ≡ puts ++ (more.0 ++ puts_at m p.done) = append_assoc puts more.0 (puts_at m p.done) in (
      more.0 ++ puts_at m p.done,
      all_at-both apart at more.0 (puts_at m p.done) more.1 (all_at-one apart at m p.done stays),
      record {
        taken = f.taken;
        cut = f.cut;
        told = f.told;
        reads = f.reads;
        front = f.front;
        told_are =
            f.told_are
            ∙ (ap (λ ms. (puts ++ more.0) ++ puts_at m ms) p.cut
            ∙ (ap (λ ps. (puts ++ more.0) ++ ps) (puts_at-append m p.done (map ByteSign left))
            ∙ (sym (append_assoc (puts ++ more.0) (puts_at m p.done) (puts_at m (map ByteSign left)))
            ∙ ap (λ ps. ps ++ puts_at m (map ByteSign left)) all)));
        writes = subst writer_now all q.stands;
        live_is = ap (live t) (sym all) ∙ q.bytes;
        have = f.have;
      },
    )

-- nothing is owed where the run that is left is empty
pub flows-empty : (s t : Spec) (moments : ℕ → ℕ) (moment : ℕ) (apart : Bool) (at : ℕ)
    (reader : List ℕ → List Known → Type 0) (writer : List Put → Type 0) (bytes rest : List ℕ) (owing : ℕ)
    (run : List ℕ) (puts : List Put) (base held : List ℕ) →
    run ≡ [] → FlowsMore s t moments moment apart at reader writer bytes rest
    (puts_at owing (map ByteSign run)) puts base held →
    FlowsMore s t moments moment apart at reader writer bytes rest [] puts base held
flows-empty s t moments moment apart at reader writer bytes rest owing run puts base held none f =
    subst (λ (xs : List ℕ). FlowsMore s t moments moment apart at reader writer bytes rest
    (puts_at owing (map ByteSign xs)) puts base held) none f

-- what is owed, said otherwise
pub flows-owes : (s t : Spec) (moments : ℕ → ℕ) (moment : ℕ) (apart : Bool) (at : ℕ)
    (reader : List ℕ → List Known → Type 0) (writer : List Put → Type 0) (bytes rest : List ℕ)
    (owes other puts : List Put) (base held : List ℕ) →
    owes ≡ other → FlowsMore s t moments moment apart at reader writer bytes rest owes puts base held →
    FlowsMore s t moments moment apart at reader writer bytes rest other puts base held
flows-owes s t moments moment apart at reader writer bytes rest owes other puts base held same f =
    subst (λ (ps : List Put). FlowsMore s t moments moment apart at reader writer bytes rest ps puts base held) same f

-- by the spec that the writer has now
pub flows-spec : (s t other : Spec) (moments : ℕ → ℕ) (moment : ℕ) (reader : List ℕ → List Known → Type 0)
    (writer : List Put → Type 0) (bytes rest : List ℕ) (owes puts : List Put) (base held : List ℕ) →
    other ≡ t → Flows s t moments moment reader writer bytes rest owes puts base held →
    Flows s other moments moment reader writer bytes rest owes puts base held
flows-spec s t other moments moment reader writer bytes rest owes puts base held same f =
    subst (λ (u : Spec). Flows s u moments moment reader writer bytes rest owes puts base held) (sym same) f

-- what a reader asks for that goes on
flows-front : (s other t : Spec) (moments : ℕ → ℕ) (moment : ℕ) (reader : List ℕ → List Known → Type 0)
    (writer : List Put → Type 0) (bytes rest : List ℕ) (owes puts : List Put) (base held : List ℕ) →
    other ≡ s → (f : Flows s t moments moment reader writer bytes rest owes puts base held) →
    IsFront f.told (known other (f.taken ++ rest))
flows-front s other t moments moment reader writer bytes rest owes puts base held same f =
    ((f.front).0, (ap (λ (u : Spec). known u (f.taken ++ rest)) same ∙ ap (known s) (sym f.cut)) ∙ (f.front).1)

flows-next : (s other t : Spec) (moments : ℕ → ℕ) (moment : ℕ) (was now : List ℕ → List Known → Type 0) (time : ℕ → ℕ)
    (writer : List Put → Type 0) (bytes rest left : List ℕ) (puts : List Put) (base held : List ℕ)
    (answer : List Told) →
    other ≡ s → Goes other was now time rest left answer →
    Flows s t moments moment was writer bytes rest [] puts base held →
    Flows s t moments moment now writer bytes left (puts_at (time moment) (told_signs answer)) puts base held
flows-next s other t moments moment was now time writer bytes rest left puts base held answer same goes f =
    let call = goes-spec s other was now time rest left answer same goes f.taken f.told f.reads
    (flows-front s s t moments moment was writer bytes rest [] puts base held refl f) in
    let go = call.goes in
    record {
      taken = f.taken ++ go.taken;
      cut = f.cut ∙ (ap (λ xs. f.taken ++ xs) go.front ∙ sym (append_assoc f.taken go.taken left));
      told = f.told ++ go.fresh;
      reads = go.stands;
      front = ((go.still).0, ap (known s) f.cut ∙ (go.still).1);
      told_are =
          puts_known-append s moments f.told go.fresh
          ∙ (ap (λ ps. ps ++ puts_known s moments go.fresh) (f.told_are ∙ append-nil puts)
          ∙ ap (λ ps. puts ++ ps)
          (puts_known-at s moments (time moment) go.fresh (call.times moments moment f.have)
          ∙ ap (λ ts. puts_at (time moment) (told_signs ts)) go.answer_is));
      writes = f.writes;
      live_is = f.live_is;
      have = moments-left moments moment f.taken rest go.taken left go.front f.have;
    }

-- one answer of the reader
pub flows-seen : (s other t : Spec) (moments : ℕ → ℕ) (moment : ℕ) (apart : Bool) (at : ℕ)
    (was now : List ℕ → List Known → Type 0) (time : ℕ → ℕ) (writer : List Put → Type 0) (bytes rest left : List ℕ)
    (puts : List Put) (base held : List ℕ) (x : Seen) →
    other ≡ s → Goes other was now time rest left (told_by x) →
    FlowsMore s t moments moment apart at was writer bytes rest [] puts base held →
    FlowsMore s t moments moment apart at now writer bytes left (puts_at (time moment) (seen_signs x)) puts base held
flows-seen s other t moments moment apart at was now time writer bytes rest left puts base held x same goes more = (
  more.0,
  more.1,
  subst (λ (ms : List Sign). Flows s t moments moment now writer bytes left (puts_at (time moment) ms)
      (puts ++ more.0) base held) (told_signs-seen x)
      (flows-next s other t moments moment was now time writer bytes rest left (puts ++ more.0) base held
      (told_by x) same goes more.2),
)

-- one answer of the reader was put, or a front of it
pub flows-step : (s other t other_t : Spec) (moments : ℕ → ℕ) (moment : ℕ) (apart : Bool) (at m : ℕ)
    (was now : List ℕ → List Known → Type 0) (time : ℕ → ℕ) (writer writer_now : List Put → Type 0)
    (bytes rest left : List ℕ) (run : List ℕ) (puts : List Put) (base held kept : List ℕ) (x : Seen) →
    other ≡ s → other_t ≡ t → m ≡ time moment → (apart ≡ true → m ≡ at) →
    Goes other was now time rest left (told_by x) →
    PutSome (live other_t) writer writer_now m (seen_signs x) run held kept →
    FlowsMore s t moments moment apart at was writer bytes rest [] puts base held →
    FlowsMore s t moments moment apart at now writer_now bytes left
    (puts_at (time moment) (map ByteSign run)) puts base kept
flows-step s other t other_t moments moment apart at m was now time writer writer_now bytes rest left run puts base held
    kept x same same_t is stays goes put more =
    flows-owes s t moments moment apart at now writer_now bytes left (puts_at m (map ByteSign run))
    (puts_at (time moment) (map ByteSign run)) puts base kept (ap (λ k. puts_at k (map ByteSign run)) is)
    (flows-put s t other_t moments moment apart at m now writer writer_now bytes left
    (seen_signs x) run puts base held kept same_t stays put
    (flows-owes s t moments moment apart at now writer bytes left (puts_at (time moment) (seen_signs x))
    (puts_at m (seen_signs x)) puts base held (ap (λ k. puts_at k (seen_signs x)) (sym is))
    (flows-seen s other t moments moment apart at was now time writer bytes rest left puts base held x same goes more)))

-- what was told and is still to be put suits
flows-suited : (s t : Spec) (moments : ℕ → ℕ) (moment at : ℕ) (reader : List ℕ → List Known → Type 0)
    (writer : List Put → Type 0) (bytes rest : List ℕ) (owes : List Sign) (puts : List Put) (base held : List ℕ) →
    Reads s → Flows s t moments moment reader writer bytes rest (puts_at at owes) puts base held →
    suited (signs_in puts ++ owes) ≡ true
flows-suited s t moments moment at reader writer bytes rest owes puts base held laws f =
    let all : puts_so_far s moments bytes ≡ (puts ++ puts_at at owes) ++ puts_known s moments (f.front).0 =
    ap (puts_known s moments) (f.front).1 ∙ (puts_known-append s moments f.told (f.front).0 ∙ ap (λ ps. ps
    ++ puts_known s moments (f.front).0) f.told_are) in
    ap suited (sym (signs_in-more puts at owes))
    ∙ puts-front (puts ++ puts_at at owes) (puts_known s moments (f.front).0)
    (ap (λ ps. suited (signs_in ps)) (sym all) ∙ suited-so_far s moments laws bytes)

pub flows-may_come : (s t : Spec) (moments : ℕ → ℕ) (moment at : ℕ) (reader : List ℕ → List Known → Type 0)
    (writer : List Put → Type 0) (bytes rest : List ℕ) (puts : List Put) (base held : List ℕ) (in_sysex : Bool)
    (x : Seen) →
    Reads s → ((ps : List Put) → writer ps → in_sysex ≡ is_open (signs_in ps)) →
    Flows s t moments moment reader writer bytes rest (puts_at at (seen_signs x)) puts base held →
    MayCome in_sysex (seen_signs x)
flows-may_come s t moments moment at reader writer bytes rest puts base held in_sysex x laws open_now f =
    may_come in_sysex (signs_in puts) x (open_now puts f.writes)
    (flows-suited s t moments moment at reader writer bytes rest (seen_signs x) puts base held laws f)

-- all of the bytes are read
pub flows-done : (s other t : Spec) (moments : ℕ → ℕ) (moment : ℕ) (apart : Bool) (at : ℕ)
    (was now : List ℕ → List Known → Type 0) (time : ℕ → ℕ) (writer : List Put → Type 0) (bytes rest left : List ℕ)
    (puts : List Put) (base held : List ℕ) →
    other ≡ s → Goes other was now time rest left [] →
    ((b : List ℕ) (k : List Known) → was b k → IsFront k (known other (b ++ rest)) → k ≡ known other (b ++ rest)) →
    left ≡ [] →
    FlowsMore s t moments moment apart at was writer bytes rest [] puts base held →
    More apart at puts (λ ps. UsedUp s t moments now writer bytes ps base held)
flows-done s other t moments moment apart at was now time writer bytes rest left puts base held same goes all_told none
    more =
    let f = more.2 in
    let ps : List Put = puts ++ more.0 in
    let front = flows-front s other t moments moment was writer bytes rest [] ps base held same f in
    let go = (goes f.taken f.told f.reads front).goes in
    let told_is : f.told ≡ known s bytes =
    all_told f.taken f.told f.reads front ∙ (ap (λ (u : Spec). known u (f.taken ++ rest)) same ∙ ap (known s)
    (sym f.cut)) in
    let fresh : f.told ++ go.fresh ≡ known s bytes = ap (λ ks. f.told ++ ks) (no_told go.fresh go.answer_is)
    ∙ (append-nil f.told ∙ told_is) in
    let taken : f.taken ++ go.taken ≡ bytes =
    ap (λ xs. f.taken ++ xs) (sym (go.front ∙ (ap (λ xs. go.taken ++ xs) none ∙ append-nil go.taken))) ∙ sym f.cut in
    let puts_are : ps ≡ puts_so_far s moments bytes = (sym (append-nil ps) ∙ sym f.told_are)
    ∙ ap (puts_known s moments) told_is in (
      more.0,
      more.1,
      record {
        stands = record {
          reads = subst (λ (b : List ℕ). now b (known s bytes)) taken
              (subst (λ (ks : List Known). now (f.taken ++ go.taken) ks) fresh go.stands);
          writes = subst writer puts_are f.writes;
        };
        puts_are = puts_are;
        live_is = f.live_is;
      },
    )

-- what was left of the piece was put before anything was read
pub fill-first : (s t : Spec) (moments : ℕ → ℕ) (moment : ℕ) (apart : Bool) (at m : ℕ)
    (reader : List ℕ → List Known → Type 0) (writer writer_now : List Put → Type 0) (bytes rest : List ℕ)
    (owes : List Sign) (left : List ℕ) (puts : List Put) (base held kept : List ℕ) →
    m ≡ at → PutSome (live t) writer writer_now m owes left held kept →
    Flows s t moments moment reader writer bytes rest (puts_at at owes) puts base held →
    FlowsMore s t moments moment apart at reader writer_now bytes rest (puts_at at (map ByteSign left)) puts base kept
fill-first s t moments moment apart at m reader writer writer_now bytes rest owes left puts base held kept is put f =
    flows-put s t t moments moment apart at at reader writer writer_now bytes rest owes left puts base held kept refl
    (λ yes. refl)
    (subst (λ (k : ℕ). PutSome (live t) writer writer_now k owes left held kept) is put)
    (flows-none s t moments moment apart at reader writer bytes rest (puts_at at owes) puts base held f)

-- then what is read was put; the second writer is one of the same spec
pub fill-left : (s t other : Spec) (moments : ℕ → ℕ) (moment : ℕ) (apart : Bool) (at m : ℕ)
    (reader reader_now : List ℕ → List Known → Type 0) (writer writer_now : List Put → Type 0)
    (bytes rest left : List ℕ) (owes puts : List Put) (base held kept : List ℕ) →
    m ≡ at → other ≡ t → FlowsMore s t moments moment apart at reader writer bytes rest [] puts base held →
    ((ps : List Put) → Flows s other moments moment reader writer bytes rest [] ps base held →
    FlowsMore s other moments moment apart m reader_now writer_now bytes left owes ps base kept) →
    FlowsMore s t moments moment apart at reader_now writer_now bytes left owes puts base kept
fill-left s t other moments moment apart at m reader reader_now writer writer_now bytes rest left owes puts base held
    kept is same f goes =
    let ps : List Put = puts ++ f.0 in
    let a = subst (λ (k : ℕ). FlowsMore s other moments moment apart k reader_now writer_now bytes left owes ps base
    kept) is
    (goes ps (flows-spec s t other moments moment reader writer bytes rest [] ps base held same f.2)) in
    let b = subst (λ (u : Spec). FlowsMore s u moments moment apart at reader_now writer_now bytes left owes ps base
    kept) same a in (
      f.0 ++ b.0,
      all_at-both apart at f.0 b.0 f.1 b.1,
      subst (λ (qs : List Put). Flows s t moments moment reader_now writer_now bytes left owes qs base kept)
          (append_assoc puts f.0 b.0) b.2,
    )

pub fill-done : (s t other : Spec) (moments : ℕ → ℕ) (moment : ℕ) (apart : Bool) (at m : ℕ)
    (reader reader_now : List ℕ → List Known → Type 0) (writer writer_now : List Put → Type 0) (bytes rest : List ℕ)
    (puts : List Put) (base held kept : List ℕ) →
    m ≡ at → other ≡ t → FlowsMore s t moments moment apart at reader writer bytes rest [] puts base held →
    ((ps : List Put) → Flows s other moments moment reader writer bytes rest [] ps base held →
    More apart m ps (λ qs. UsedUp s other moments reader_now writer_now bytes qs base kept)) →
    More apart at puts (λ qs. UsedUp s t moments reader_now writer_now bytes qs base kept)
fill-done s t other moments moment apart at m reader reader_now writer writer_now bytes rest puts base held kept is same
    f goes =
    let ps : List Put = puts ++ f.0 in
    let a = subst (λ (k : ℕ). More apart k ps
    (λ qs. UsedUp s other moments reader_now writer_now bytes qs base kept)) is
    (goes ps (flows-spec s t other moments moment reader writer bytes rest [] ps base held same f.2)) in
    let b = subst (λ (u : Spec). More apart at ps
    (λ qs. UsedUp s u moments reader_now writer_now bytes qs base kept)) same a in (
      f.0 ++ b.0,
      all_at-both apart at f.0 b.0 f.1 b.1,
      subst (λ (qs : List Put). UsedUp s t moments reader_now writer_now bytes qs base kept)
          (append_assoc puts f.0 b.0) b.2,
    )

-- at the start of a piece
pub flows-start : (s t : Spec) (moments : ℕ → ℕ) (moment : ℕ) (reader : List ℕ → List Known → Type 0)
    (writer : List Put → Type 0) (bytes piece : List ℕ) →
    ((b more : List ℕ) → IsFront (known s b) (known s (b ++ more))) → HopStands s moments reader writer bytes →
    HaveMoment moments (length bytes) (length piece) moment →
    Flows s t moments moment reader writer (bytes ++ piece) piece [] (puts_so_far s moments bytes)
    (live t (puts_so_far s moments bytes)) []
flows-start s t moments moment reader writer bytes piece stays h have =
    record {
      taken = bytes;
      cut = refl;
      told = known s bytes;
      reads = h.reads;
      front = stays bytes piece;
      told_are = sym (append-nil (puts_so_far s moments bytes));
      writes = h.writes;
      live_is = sym (append-nil (live t (puts_so_far s moments bytes)));
      have = have;
    }

-- what the buffer held was handed on
pub flows-handed : (s t : Spec) (moments : ℕ → ℕ) (moment : ℕ) (reader : List ℕ → List Known → Type 0)
    (writer : List Put → Type 0) (bytes rest : List ℕ) (owes puts : List Put) (base held : List ℕ) →
    Flows s t moments moment reader writer bytes rest owes puts base held →
    Flows s t moments moment reader writer bytes rest owes puts (base ++ held) []
flows-handed s t moments moment reader writer bytes rest owes puts base held f =
    record {
      taken = f.taken;
      cut = f.cut;
      told = f.told;
      reads = f.reads;
      front = f.front;
      told_are = f.told_are;
      writes = f.writes;
      live_is = f.live_is ∙ sym (append-nil (base ++ held));
      have = f.have;
    }
