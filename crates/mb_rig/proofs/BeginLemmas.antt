-- A run from its files on.
use Rattle.std.proofs.Common.{◌≡◌, ◌≢◌, ◌⊎◌, inl, inr, ℕ, zero, suc, ◌+◌, ◌<◌, ◌≤◌, Bool, true, false, List, [], ◌∷◌, ◌++◌, length, map}
use Rattle.std.proofs.Common.{Option, Some, None, IsTrue, refl, sym, ◌∙◌, ap, subst, arith, append_assoc, append-nil}
use Rattle.std.proofs.Common.{length-append}
use Rattle.std.specs.Prelude.{◌-◌, ◌==◌, ◌&&◌, ◌||◌, nat_le, slice_get, slice_index_or}
use Rattle.std.proofs.lemmas.Bool.Decides.{nat_tests}
use Rattle.std.proofs.lemmas.List.{length-map}
use Rattle.std.proofs.lemmas.Option.{slice_get_past, slice_get_within}
use Rattle.arrayvec.specs.ArrayVec.{ArrayVec}
use Rattle.mb_message.specs.Front.{IsPart}
use Rattle.mb_stream.specs.Puts.{Put}
use Rattle.mb_outside.specs.Contents.{Contents, is_readable, next_handle, reads_given}
use Rattle.mb_merge.specs.declared.source.Held.{Held}
use Rattle.mb_merge.specs.Links.{Merger, link_of}
use Rattle.mb_rig.specs.RigText.{RigPort, Setup}
use Rattle.mb_rig.specs.Right.{IsRig, specs_of}
use Rattle.mb_rig.specs.Outlet.{outlet_spec}
use Rattle.mb_rig.specs.Outs.{OutsStand}
use Rattle.mb_rig.specs.Bay.{AreHanded, BayStands, BayWrote, HasRoom, is_stalled, turn_key}
use Rattle.mb_rig.specs.Feed.{FeedStands, key_by}
use Rattle.mb_rig.specs.Running.{AreFeeds, HaltsBy, RunOver, RunStands, RunTouched}
use Rattle.mb_rig.specs.Causes.{EndCause}
use Rattle.mb_rig.specs.Given.{Apart, CreatedMore, CreatesPart, OpenedMore, OpensPart}
use Rattle.mb_rig.specs.Beginning.{BayBegins, FeedsHalted, FeedsOpened, FeedsReady, FeedsStarted, OutsCreated, RunBegins}
use Rattle.mb_rig.specs.Beginning.{nothing_put}
use Rattle.mb_rig.specs.RigRun.{AllGiven, EndLink, FewRead, IsRunFront, Merges, NotGiven, RunEnds, RunKeeps, files_of}
use Rattle.mb_rig.specs.RigRun.{link_handle, out_handle, tapes_of, to_read, to_write}
use Rattle.mb_rig.specs.declared.bay.Bay.{Bay}
use Rattle.mb_rig.specs.declared.feed.Feed.{Feed}
use Rattle.mb_rig.specs.declared.outlet.Outlet.{Outlet}
use Rattle.mb_rig.specs.declared.ending.RigEnd.{RigEnd}
use Rattle.mb_rig.specs.declared.ending.RigEnd.TheVariants as end
use Rattle.mb_rig.specs.Merging.Lines.{Key, key_at, no_key}
use Rattle.mb_rig.specs.Merging.Course.{Course, Links, first_links, start_of}
use Rattle.mb_rig.specs.Merging.Playing.{AreHeld, Play, begins_play}
use Rattle.mb_rig.proofs.BayLemmas.{OutLive, live-at}
use Rattle.mb_rig.proofs.EndLemmas.{few-read, front-merges, merged-front, out-front, out-low, spec-at}
use Rattle.mb_rig.proofs.FeedLemmas.{link-kept}
use Rattle.mb_rig.proofs.GivenLemmas.{feeds-none, next-by, outs-none, read-many, write-many}
use Rattle.mb_rig.proofs.StepLemmas.{outs-read, touched-then, touched-wrote}
use Rattle.mb_rig.proofs.Merging.CourseSteps.{course-starts}
use Rattle.mb_rig.proofs.Merging.Lateness.{none≢some, some_same}

-- the links' first keys

abbrev key_of : (x : ℕ) → Option Feed → Option Key
key_of x None = None
key_of x (Some f) = key_by x f.record

abbrev first_keys : List Feed → ℕ → Option Key
first_keys feeds x = key_of x (slice_get feeds x)

own-key : (x : ℕ) (o : Option Feed) (k : Key) → key_of x o ≡ Some k → k.link ≡ x
own-key x None k is = absurd (none≢some k is)
own-key x (Some f) k is = by_moment f.record is
  where
    by_moment : (m : Option ℕ) → key_by x m ≡ Some k → k.link ≡ x
    by_moment None e = absurd (none≢some k e)
    by_moment (Some m) e = ap (λ (z : Key). z.link) (sym (some_same e))

-- nothing was put

handed-none : (routes : List (ℕ × ℕ)) (out : ℕ) (outs : List Outlet) → AreHanded routes out (nothing_put outs) []
handed-none routes out [] = tt
handed-none routes out (o ∷ os) = (refl, handed-none routes (out + 1) os)

none-held : (x : ℕ) (hs : List Held) → AreHeld x hs [] → hs ≡ []
none-held x [] are = refl
none-held x (h ∷ hs) are = absurd are

course-begun : (s : Setup) (b : Bay) (present : ℕ → Option Key) → ((x : ℕ) (k : Key) → present x ≡ Some k →
    k.link ≡ x) → b.router ≡ start_of s → turn_key b.greatest ≡ no_key 0 →
    Course s b.router (first_links present) (turn_key b.greatest) begins_play
course-begun s b present own router key =
    subst (λ (m : Merger). Course s m (first_links present) (turn_key b.greatest) begins_play) (sym router)
    (subst (λ (k : Key). Course s (start_of s) (first_links present) k begins_play) (sym key)
    (course-starts s present own))

pub outs-many : (outs : List Outlet) (ports : List RigPort) → map outlet_spec outs ≡ specs_of ports →
    length outs ≡ length ports
outs-many outs ports specs =
    sym (length-map outs outlet_spec) ∙ (ap length specs ∙ length-map ports (λ (p : RigPort). p.spec))

-- the first records are known, and the run may step

pub run-starts : {S : Type 0} (tells : Bool) (contents : S → Contents) (s : Setup) (before : List ℕ)
    (base first limit count outs : ℕ) (feeds now : List Feed) (b : Bay) (at then : S) →
    RunBegins tells contents s before base first limit feeds b at →
    FeedsStarted tells contents s base limit now then →
    (IsTrue tells → (contents then).written ≡ (contents at).written) →
    RunTouched tells contents base count first outs at then →
    RunStands tells contents s before base first limit now b then (first_links (first_keys now)) begins_play
run-starts tells contents s before base first limit count outs feeds now b at then begins started written touched = record {
  bay = record {
    course = course;
    stalled = λ x. sym (begins.free x);
    putss = nothing_put b.outs.items;
    outs = outs-read tells contents first b.outs.items at then (nothing_put b.outs.items) written touched.given
        begins.outs;
    handed = handed-none s.routes 0 b.outs.items;
    many = outs-many b.outs.items s.outs begins.specs;
    few = begins.right.counts.3;
    few_links = begins.right.counts.1;
    flags = begins.flags;
    specs = begins.specs;
    report = λ t. ap (λ (g : ℕ → List ℕ). g 1) (written t) ∙ (begins.report t ∙ sym (append-nil before));
    behind = begins.behind;
  };
  drained = ap (λ (m : Merger). m.draining) begins.router;
  are = started.are;
  each = λ x f is. subst (λ (k : Option Key). FeedStands tells contents x f then k []) (sym (ap (key_of x) is))
      (started.each x f is);
  none = λ x high. ap (key_of x) (slice_get_past now x (let many = started.are.many in omega (arith, high, many)));
  room = λ x f is waits free.
      let none = ap length (none-held x (link_of b.router x).held (course.order.plays.held x)) in omega (arith, none);
}
  where
    course : Course s b.router (first_links (first_keys now)) (turn_key b.greatest) begins_play
    course = course-begun s b (first_keys now) (λ x k is. own-key x (slice_get now x) k is) begins.router
        begins.first_key

-- a link stops the run before its first step
pub halt-merges : {S : Type 0} (tells : Bool) (contents : S → Contents) (s : Setup) (first limit : ℕ)
    (feeds now : List Feed) (b : Bay) (at then : S) (start : Contents) (end : RigEnd) →
    first ≡ next_handle start + length s.ins → IsTrue tells →
    RunBegins tells contents s (start.written 1) (next_handle start) first limit feeds b at →
    FeedsHalted tells contents s (next_handle start) limit now then × HaltsBy tells s (next_handle start) limit
    (contents then) end → (contents then).written ≡ (contents at).written → Merges s limit start (contents then) end
halt-merges tells contents s first limit feeds now b at then start end first_is t begins halted written =
    front-merges s limit start (contents then) tells end t
    (few-read tells contents s limit now then start (λ x. []) halted.0.are halted.0.fronts t)
    (record {
      report = [];
      text = ap (λ (g : ℕ → List ℕ). g 1) written ∙ (begins.report t ∙ sym (append-nil (start.written 1)));
      merged = merged-front tells contents s limit now then start b.router (first_links (λ x. None))
          (turn_key b.greatest) begins_play (λ x. []) course refl (λ y. refl) halted.0.are halted.0.fronts t;
      outs = λ out port is.
          out-front tells contents s first out (out_handle s start out) port b.router (first_links (λ x. None))
          (turn_key b.greatest) begins_play at (contents then) course (out-low s out port begins.right.counts.3 is)
          (spec-at s.outs out port begins.right.outs is)
          (subst (λ n. OutLive tells contents s first n port at begins_play) (omega arith)
          (live-at tells contents s first 0 b.outs.items at (nothing_put b.outs.items) s.outs begins_play
          (subst (λ n. OutsStand tells contents n b.outs.items at (nothing_put b.outs.items)) (omega arith) begins.outs)
          begins.specs (handed-none s.routes 0 b.outs.items) out port is))
          t written (omega (arith, first_is));
    }) halted.1
  where
    course : Course s b.router (first_links (λ x. None)) (turn_key b.greatest) begins_play
    course = course-begun s b (λ x. None) (λ x k is. absurd (none≢some k is)) begins.router begins.first_key

-- the files are given

pub next-of : (start mid : Contents) (s : Setup) → OpenedMore start mid (to_read s.ins) →
    next_handle mid ≡ next_handle start + length s.ins
next-of start mid s more = next-by start mid (to_read s.ins) more.given
    ∙ ap (λ n. next_handle start + n) (read-many s.ins)

get-behind : (xs ys : List (List ℕ × Bool)) (i : ℕ) → i < length xs → slice_get (xs ++ ys) i ≡ slice_get xs i
get-behind [] ys i low = absurd (omega (arith, low))
get-behind (x ∷ xs) ys zero low = refl
get-behind (x ∷ xs) ys (suc i) low = get-behind xs ys i (omega (arith, low))

readable-behind : (c d : Contents) (h : ℕ) (files : List (List ℕ × Bool)) → d.given ≡ c.given ++ files →
    h < next_handle c → is_readable d h ≡ is_readable c h
readable-behind c d h files given low =
    ap (λ g. is_readable (record c { given = g }) h) given ∙ ap (λ (b : Bool). h == 0 || b) (by_test (nat_le 3 h) refl)
  where
    by_test : (b : Bool) → nat_le 3 h ≡ b → (b && reads_given (slice_get (c.given ++ files) (h - 3)))
        ≡ (b && reads_given (slice_get c.given (h - 3)))
    by_test true up =
        let three : 3 ≤ h = grind (arith, nat_tests) in
        ap reads_given (get-behind c.given files (h - 3) (omega (arith, three, low)))
    by_test false up = refl

pub run-begins : {S : Type 0} (tells : Bool) (contents : S → Contents) (s : Setup) (limit : ℕ) (feeds : List Feed)
    (b now : Bay) (start : Contents) (mid at : S) → IsRig s → BayBegins s b → now.router ≡ b.router →
    now.stalled ≡ b.stalled → now.greatest ≡ b.greatest →
    FeedsOpened tells contents s.ins limit feeds start mid →
    OutsCreated tells contents s.outs now.outs.items (contents mid) at →
    RunBegins tells contents s (start.written 1) (next_handle start) (next_handle (contents mid)) limit feeds now at
run-begins tells contents s limit feeds b now start mid at rig begins router stalled greatest opened created = record {
  right = rig;
  router = router ∙ begins.router;
  flags = ap length stalled ∙ begins.flags;
  free = λ x. ap (λ (xs : List Bool). slice_index_or xs x false) stalled ∙ begins.free x;
  first_key = ap turn_key greatest ∙ begins.first_key;
  ready = record {
    are = record { many = opened.many; here = opened.here; own = opened.own };
    each = λ x f is. link-kept tells contents f.link mid at []
        (λ t. ap (λ (g : ℕ → List ℕ). g f.link.supply.handle) (created.more t).left)
        (λ t. ap (λ (g : ℕ → List ℕ). g f.link.supply.handle) (created.more t).taken)
        (λ t. readable-behind (contents mid) (contents at) f.link.supply.handle (to_write s.outs) (created.more t).given
        (let low = slice_get_within feeds x f is in
        let many = opened.many in
        let here = opened.here x f is t in
        let next = next-of start (contents mid) s (opened.more t) in
        omega (arith, low, many, here, next)))
        (opened.each x f is);
  };
  specs = created.specs;
  outs = created.stand;
  report = λ t. (created.more t).written 1 (λ low high. omega (arith, low))
      ∙ ap (λ (g : ℕ → List ℕ). g 1) (opened.more t).written;
  behind = omega arith;
}

-- what the run of given files says of all of them

pub all-ends : (s : Setup) (limit : ℕ) (start mid at now : Contents) (answer : RigEnd) →
    OpenedMore start mid (to_read s.ins) → CreatedMore mid at (to_write s.outs) → now.given ≡ at.given →
    Merges s limit start now answer → RunEnds s limit start now answer
all-ends s limit start mid at now answer opened created same merges = by_end answer merges
  where
    given : now.given ≡ start.given ++ files_of s
    given = same ∙ (created.given ∙ (ap (λ gs. gs ++ to_write s.outs) opened.given
        ∙ append_assoc start.given (to_read s.ins) (to_write s.outs)))

    by_end : (e : RigEnd) → Merges s limit start now e → RunEnds s limit start now e
    by_end end.Done m = record { given = given; through = m.0; run = m.1; whole_is = m.2 }
    by_end end.Cut m = record { given = given; through = m.0; run = m.1; whole_is = m.2 }
    by_end end.ReadFault m = inr (record { given = given; few = m.0 }, m.1)
    by_end end.WriteFault m = inr (record { given = given; few = m.0 }, m.1)
    by_end (end.BadTape link fault) m = (record { given = given; few = m.0 }, m.1, m.2)
    by_end (end.TooLong link) m = (record { given = given; few = m.0 }, m.1, m.2, m.3)
    by_end (end.Memory memory) m = absurd m

pub all-keeps : {S : Type 0} (tells : Bool) (contents : S → Contents) (s : Setup) (start : Contents)
    (links outs : ℕ) (mid at now : S) → IsTrue tells → links ≡ length s.ins → outs ≡ length s.outs →
    OpenedMore start (contents mid) (to_read s.ins) → CreatedMore (contents mid) (contents at) (to_write s.outs) →
    RunTouched tells contents (next_handle start) links (next_handle (contents mid)) outs at now →
    RunKeeps s start (contents now)
all-keeps tells contents s start links outs mid at now t links_are outs_are opened created touched = record {
  left = λ h apart.
      touched.left t h (λ low high. apart low (omega (arith, high, links_are)))
      ∙ (ap (λ (g : ℕ → List ℕ). g h) created.left
      ∙ opened.left h (λ low high. apart low (omega (arith, high, many_ins))));
  taken = λ h apart.
      touched.taken t h (λ low high. apart low (omega (arith, high, links_are)))
      ∙ (ap (λ (g : ℕ → List ℕ). g h) created.taken
      ∙ opened.taken h (λ low high. apart low (omega (arith, high, many_ins))));
  written = λ h other apart.
      touched.written t h other (λ low high. apart (omega (arith, low, next)) (omega (arith, high, next, outs_are)))
      ∙ (created.written h (λ low high. apart (omega (arith, low, next)) (omega (arith, high, next, many_outs)))
      ∙ ap (λ (g : ℕ → List ℕ). g h) opened.written);
}
  where
    many_ins : length (to_read s.ins) ≡ length s.ins
    many_ins = read-many s.ins

    many_outs : length (to_write s.outs) ≡ length s.outs
    many_outs = write-many s.outs

    next : next_handle (contents mid) ≡ next_handle start + length s.ins
    next = next-of start (contents mid) s opened

-- a link's file couldn't be opened

pub open-ends : (s : Setup) (limit : ℕ) (start now : Contents) → OpensPart start now (to_read s.ins) →
    RunEnds s limit start now end.ReadFault
open-ends s limit start now part = inl (record {
  front = part.front;
  part = part.part;
  given = part.more.given;
  unread = λ link low within. part.more.unread link low;
  unwritten = ap (λ (g : ℕ → List ℕ). g 1) part.more.written;
  empty = λ out low. absurd (omega (
    arith,
    low,
    part.part.2,
    ap length part.part.1,
    length-append part.front part.part.0,
    read-many s.ins,
  ));
})

pub open-keeps : (s : Setup) (start now : Contents) → OpensPart start now (to_read s.ins) → RunKeeps s start now
open-keeps s start now part = record {
  left = λ h apart. part.more.left h (λ low high. apart low (omega (arith, high, few)));
  taken = λ h apart. part.more.taken h (λ low high. apart low (omega (arith, high, few)));
  written = λ h other apart. ap (λ (g : ℕ → List ℕ). g h) part.more.written;
}
  where
    few : length part.front ≤ length s.ins
    few = omega (
      arith,
      ap length part.part.1,
      length-append part.front part.part.0,
      read-many s.ins,
    )

-- an out's file couldn't be created

pub create-ends : (s : Setup) (limit : ℕ) (start mid now : Contents) → OpenedMore start mid (to_read s.ins) →
    CreatesPart mid now (to_write s.outs) → RunEnds s limit start now end.WriteFault
create-ends s limit start mid now opened part = inl (
  record {
    front = to_read s.ins ++ part.front;
    part = (
      part.part.0,
      ap (λ gs. to_read s.ins ++ gs) part.part.1 ∙ sym (append_assoc (to_read s.ins) part.front part.part.0),
      part.part.2,
    );
    given = given;
    unread = λ link low within. ap (λ (g : ℕ → List ℕ). g (link_handle start link)) part.more.taken
        ∙ opened.unread link (omega (arith, within, many));
    unwritten = part.more.written 1 (λ low high. omega (arith, low)) ∙ ap (λ (g : ℕ → List ℕ). g 1) opened.written;
    empty = λ out low. ap now.written (omega (arith, next))
        ∙ part.more.empty out (omega (arith, low, many, length-append (to_read s.ins) part.front));
  },
  omega (
    arith,
    ap length given,
    length-append start.given (to_read s.ins ++ part.front),
    length-append (to_read s.ins) part.front,
    many,
  ),
)
  where
    many : length (to_read s.ins) ≡ length s.ins
    many = read-many s.ins

    next : next_handle mid ≡ next_handle start + length s.ins
    next = next-of start mid s opened

    given : now.given ≡ start.given ++ (to_read s.ins ++ part.front)
    given = part.more.given ∙ (ap (λ gs. gs ++ part.front) opened.given
        ∙ append_assoc start.given (to_read s.ins) part.front)

pub create-keeps : (s : Setup) (start mid now : Contents) → OpenedMore start mid (to_read s.ins) →
    CreatesPart mid now (to_write s.outs) → RunKeeps s start now
create-keeps s start mid now opened part = record {
  left = λ h apart. ap (λ (g : ℕ → List ℕ). g h) part.more.left
      ∙ opened.left h (λ low high. apart low (omega (arith, high, many)));
  taken = λ h apart. ap (λ (g : ℕ → List ℕ). g h) part.more.taken
      ∙ opened.taken h (λ low high. apart low (omega (arith, high, many)));
  written = λ h other apart.
      part.more.written h (λ low high. apart (omega (arith, low, next)) (omega (arith, high, next, few)))
      ∙ ap (λ (g : ℕ → List ℕ). g h) opened.written;
}
  where
    many : length (to_read s.ins) ≡ length s.ins
    many = read-many s.ins

    next : next_handle mid ≡ next_handle start + length s.ins
    next = next-of start mid s opened

    few : length part.front ≤ length s.outs
    few = omega (
      arith,
      ap length part.part.1,
      length-append part.front part.part.0,
      write-many s.outs,
    )

-- the counts

pub cause-from : (reads reads_mid reads_now writes writes_mid writes_now : ℕ) (end : RigEnd) → reads_mid ≡ reads →
    writes_mid ≡ writes → EndCause reads_mid reads_now writes_mid writes_now end →
    EndCause reads reads_now writes writes_now end
cause-from reads reads_mid reads_now writes writes_mid writes_now end same_reads same_writes cause =
    subst (λ (r : ℕ). EndCause r reads_now writes writes_now end) same_reads
    (subst (λ (w : ℕ). EndCause reads_mid reads_now w writes_now end) same_writes cause)

-- calls on the rig's ports

pub feeds-all : {S : Type 0} (tells : Bool) (contents : S → Contents) (limit : ℕ) (ports ins : List RigPort)
    (feeds now : List Feed) (at mid : S) → feeds ≡ [] → ports ≡ ins →
    ((done : List RigPort) (start : Contents) → FeedsOpened tells contents done limit feeds start at →
    FeedsOpened tells contents (done ++ ports) limit now start mid) →
    FeedsOpened tells contents ins limit now (contents at) mid
feeds-all tells contents limit ports ins feeds now at mid none same rest =
    subst (λ (ps : List RigPort). FeedsOpened tells contents ps limit now (contents at) mid) same
    (rest [] (contents at) (subst (λ (fs : List Feed). FeedsOpened tells contents [] limit fs (contents at) at)
    (sym none) (feeds-none tells contents limit at)))

pub feeds-some : {S : Type 0} (tells : Bool) (contents : S → Contents) (limit : ℕ) (ports ins : List RigPort)
    (feeds : List Feed) (at mid : S) → feeds ≡ [] → ports ≡ ins →
    ((done : List RigPort) (start : Contents) → FeedsOpened tells contents done limit feeds start at → IsTrue tells →
    OpensPart start (contents mid) (to_read (done ++ ports))) → IsTrue tells →
    OpensPart (contents at) (contents mid) (to_read ins)
feeds-some tells contents limit ports ins feeds at mid none same rest t =
    subst (λ (ps : List RigPort). OpensPart (contents at) (contents mid) (to_read ps)) same
    (rest [] (contents at) (subst (λ (fs : List Feed). FeedsOpened tells contents [] limit fs (contents at) at)
    (sym none) (feeds-none tells contents limit at)) t)

pub outs-all : {S : Type 0} (tells : Bool) (contents : S → Contents) (ports outs : List RigPort)
    (were now : List Outlet) (mid at : S) → were ≡ [] → ports ≡ outs →
    ((done : List RigPort) (start : Contents) → OutsCreated tells contents done were start mid →
    OutsCreated tells contents (done ++ ports) now start at) →
    OutsCreated tells contents outs now (contents mid) at
outs-all tells contents ports outs were now mid at none same rest =
    subst (λ (ps : List RigPort). OutsCreated tells contents ps now (contents mid) at) same
    (rest [] (contents mid) (subst (λ (os : List Outlet). OutsCreated tells contents [] os (contents mid) mid)
    (sym none) (outs-none tells contents mid)))

pub outs-some : {S : Type 0} (tells : Bool) (contents : S → Contents) (ports outs : List RigPort)
    (were : List Outlet) (mid at : S) → were ≡ [] → ports ≡ outs →
    ((done : List RigPort) (start : Contents) → OutsCreated tells contents done were start mid → IsTrue tells →
    CreatesPart start (contents at) (to_write (done ++ ports))) → IsTrue tells →
    CreatesPart (contents mid) (contents at) (to_write outs)
outs-some tells contents ports outs were mid at none same rest t =
    subst (λ (ps : List RigPort). CreatesPart (contents mid) (contents at) (to_write ps)) same
    (rest [] (contents mid) (subst (λ (os : List Outlet). OutsCreated tells contents [] os (contents mid) mid)
    (sym none) (outs-none tells contents mid)) t)

pub run-begins_by : {S : Type 0} (tells : Bool) (contents : S → Contents) (s : Setup) (limit : ℕ)
    (slice feeds : List Feed) (b : Bay) (outs : ArrayVec Outlet) (start : Contents) (mid at : S) → IsRig s →
    BayBegins s b → slice ≡ feeds → FeedsOpened tells contents s.ins limit feeds start mid →
    OutsCreated tells contents s.outs outs.items (contents mid) at →
    RunBegins tells contents s (start.written 1) (next_handle start) (next_handle (contents mid)) limit slice
    (record b { outs = outs }) at
run-begins_by tells contents s limit slice feeds b outs start mid at rig begins same opened created =
    subst (λ (fs : List Feed). RunBegins tells contents s (start.written 1) (next_handle start)
    (next_handle (contents mid)) limit fs (record b { outs = outs }) at) (sym same)
    (run-begins tells contents s limit feeds b (record b { outs = outs }) start mid at rig begins refl refl refl opened
    created)
