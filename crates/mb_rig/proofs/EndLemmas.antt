-- What a run leaves of a desk, at its end and where it stops.
use Rattle.std.proofs.Common.{◌≡◌, ◌≢◌, ℕ, zero, suc, ◌+◌, ◌<◌, ◌≤◌, Bool, true, false, List, [], ◌∷◌, ◌++◌, length}
use Rattle.std.proofs.Common.{map, Option, Some, None, IsTrue, refl, ap, sym, subst, ◌∙◌, arith, append-nil}
use Rattle.std.specs.Prelude.{not, ◌&&◌, ◌||◌, slice_get}
use Rattle.std.specs.List.{list_all, list_any}
use Rattle.std.proofs.lemmas.Bool.{false≢true}
use Rattle.std.proofs.lemmas.Option.{slice_get_within}
use Rattle.mb_message.specs.Front.{IsFront}
use Rattle.mb_stream.specs.Puts.{Put, At, Flush, signs_in}
use Rattle.mb_outside.specs.Contents.{Contents, next_handle}
use Rattle.mb_frames.specs.Tapes.{tape_fault}
use Rattle.mb_stream.specs.Denotation.{denotation}
use Rattle.mb_stream.specs.Standing.{AreValid, is_valid, suited}
use Rattle.mb_carrier.specs.Carrier.{den, notes_of, whole, written}
use Rattle.mb_carrier.proofs.ConversionLemmas.{laws}
use Rattle.mb_carrier.specs.Live.{HoldsBack}
use Rattle.mb_carrier.proofs.LiveLemmas.{holds-back}
use Rattle.mb_carrier.specs.Word.{AreSpecs, IsSpec}
use Rattle.mb_track.specs.Track.{track_marks, track_whole}
use Rattle.mb_track.specs.TrackReading.{track_of, track_spec}
use Rattle.mb_carrier.specs.declared.spec.Spec.{Spec}
use Rattle.mb_rig.specs.RigText.{RigPort, Setup}
use Rattle.mb_rig.specs.Right.{IsRig, specs_of}
use Rattle.mb_rig.specs.Bay.{BayEnds, BayWrote, OutHas, marks_put, turn_key}
use Rattle.mb_rig.specs.Feed.{FeedFront, FeedStands, IsFeed, key_by}
use Rattle.mb_rig.specs.Running.{AreFeeds, ByEnd, HaltsBy, RunBroken, RunOver, RunStands, RunStopped}
use Rattle.mb_rig.specs.RigRun.{EndLink, FewRead, IsOut, IsOutFront, IsRun, IsRunFront, IsRunPart, Merges, ReadThrough}
use Rattle.mb_rig.specs.RigRun.{all_whole, link_handle, out_handle, tapes_of, whole_from}
use Rattle.mb_rig.specs.declared.ending.RigEnd.{RigEnd}
use Rattle.mb_rig.specs.declared.ending.RigEnd.TheVariants as end
use Rattle.mb_merge.specs.Links.{Merger}
use Rattle.mb_rig.specs.declared.bay.Bay.{Bay}
use Rattle.mb_rig.specs.declared.feed.Feed.{Feed}
use Rattle.mb_rig.specs.Merging.Lines.{Key, Source}
use Rattle.mb_rig.specs.Merging.Report.{lines_to, text_of}
use Rattle.mb_rig.specs.Merging.Merged.{meant_by}
use Rattle.mb_rig.specs.Merging.Course.{Course, Links}
use Rattle.mb_rig.specs.Merging.Playing.{Play, report_of}
use Rattle.mb_rig.specs.Merging.Ended.{AreGiven, AreGivenFronts, IsMerged, IsMergedFront, MeansSoFar, puts_to, sources_from}
use Rattle.mb_rig.specs.Merging.Ended.{sources_of}
use Rattle.mb_rig.proofs.FeedLemmas.{FeedIsOver, feed-over, feed-stopped, feed-wrote}
use Rattle.mb_rig.proofs.RunLemmas.{feed-at, port-at}
use Rattle.mb_rig.proofs.Merging.CourseEnds.{course-merged, course-stopped}
use Rattle.mb_rig.proofs.Merging.OutsHeard.{course-heard, course-suits, course-written}
use Rattle.mb_rig.proofs.Merging.Lateness.{none≢some, some_same, true≢false}
use Rattle.mb_rig.proofs.StampLemmas.{out-stamps}
use Rattle.mb_rig.proofs.BayLemmas.{OutLive, bay-broken, bay-live, put-signs}

-- the sources of a rig, by the tapes of its links

given-from : (links : Links) (tapes : ℕ → List ℕ) (at : ℕ) (ports : List RigPort) →
    ((x : ℕ) (p : RigPort) → slice_get ports x ≡ Some p →
    links.given (at + x) ≡ track_marks p.spec p.track (tapes (at + x))) →
    AreGiven links at (sources_from at ports tapes)
given-from links tapes at [] each = tt
given-from links tapes at (p ∷ ps) each = (
  subst (λ n. links.given n ≡ track_marks p.spec p.track (tapes n)) (omega arith) (each 0 p refl),
  given-from links tapes (at + 1) ps (λ x q is. subst (λ n. links.given n ≡ track_marks q.spec q.track (tapes n))
      (omega arith) (each (suc x) q is)),
)

fronts-from : (links : Links) (tapes : ℕ → List ℕ) (at : ℕ) (ports : List RigPort) →
    ((x : ℕ) (p : RigPort) → slice_get ports x ≡ Some p →
    IsFront (links.given (at + x)) (track_marks p.spec p.track (tapes (at + x)))) →
    AreGivenFronts links at (sources_from at ports tapes)
fronts-from links tapes at [] each = tt
fronts-from links tapes at (p ∷ ps) each = (
  subst (λ n. IsFront (links.given n) (track_marks p.spec p.track (tapes n))) (omega arith) (each 0 p refl),
  fronts-from links tapes (at + 1) ps (λ x q is. subst (λ n. IsFront (links.given n)
      (track_marks q.spec q.track (tapes n))) (omega arith) (each (suc x) q is)),
)

-- a tape is whole where its link wasn't cut short

abbrev pub any_cut : List Feed → Bool
any_cut feeds = list_any (λ (f : Feed). f.link.cut) feeds

not-or : (a b c d : Bool) → a ≡ not c → not b ≡ d → not (a || b) ≡ (c && d)
not-or true b true d e f = absurd (true≢false e)
not-or true b false d e f = refl
not-or false b true d e f = f
not-or false b false d e f = absurd (false≢true e)

whole-from : (tapes : ℕ → List ℕ) (at : ℕ) (ports : List RigPort) (feeds : List Feed) → length feeds ≡ length ports →
    ((x : ℕ) (f : Feed) (p : RigPort) → slice_get feeds x ≡ Some f → slice_get ports x ≡ Some p →
    f.link.cut ≡ not (track_whole p.spec p.track (tapes (at + x)))) →
    not (any_cut feeds) ≡ whole_from at ports tapes
whole-from tapes at [] [] many each = refl
whole-from tapes at [] (f ∷ fs) many each = absurd (omega (arith, many))
whole-from tapes at (p ∷ ps) [] many each = absurd (omega (arith, many))
whole-from tapes at (p ∷ ps) (f ∷ fs) many each =
    not-or f.link.cut (any_cut fs) (track_whole p.spec p.track (tapes at)) (whole_from (at + 1) ps tapes)
    (each 0 f p refl refl ∙ ap (λ n. not (track_whole p.spec p.track (tapes n))) (omega arith))
    (whole-from tapes (at + 1) ps fs (omega (arith, many))
    (λ x g q at_g at_q. each (suc x) g q at_g at_q ∙ ap (λ n. not (track_whole q.spec q.track (tapes n)))
    (omega arith)))

pub spec-at : (ports : List RigPort) (x : ℕ) (p : RigPort) → AreSpecs (specs_of ports) → slice_get ports x ≡ Some p →
    IsSpec p.spec
spec-at [] x p are is = absurd (none≢some p is)
spec-at (q ∷ qs) zero p are is = subst (λ (r : RigPort). IsSpec r.spec) (some_same is) are.0
spec-at (q ∷ qs) (suc x) p are is = spec-at qs x p are.1 is

-- the same port, track and tape

same-marks : (s t : Spec) (track other : ℕ) (tape now : List ℕ) → s ≡ t → track ≡ other → tape ≡ now →
    track_marks s track tape ≡ track_marks t other now
same-marks s t track other tape now a b c = ap (λ x. track_marks x track tape) a
    ∙ (ap (λ n. track_marks t n tape) b ∙ ap (track_marks t other) c)

same-whole : (s t : Spec) (track other : ℕ) (tape now : List ℕ) → s ≡ t → track ≡ other → tape ≡ now →
    track_whole s track tape ≡ track_whole t other now
same-whole s t track other tape now a b c = ap (λ x. track_whole x track tape) a
    ∙ (ap (λ n. track_whole t n tape) b ∙ ap (track_whole t other) c)

-- of a desk that tells: what a link's tape became

pub record LinkOver (s : Setup) (limit : ℕ) (start now : Contents) (links : Links) (x : ℕ) (f : Feed) (p : RigPort)
    : Type 0 where
  pub all : links.given x ≡ track_marks p.spec p.track (tapes_of start now x)
  pub left : now.left (link_handle start x) ≡ []
  pub below : length (tapes_of start now x) < limit
  pub right : tape_fault (tapes_of start now x) ≡ None
  pub cut : f.link.cut ≡ not (track_whole p.spec p.track (tapes_of start now x))

key-none : (x : ℕ) (moment_at : Option ℕ) → key_by x moment_at ≡ None → moment_at ≡ None
key-none x None is = refl
key-none x (Some m) is = absurd (none≢some _ (sym is))

link-over : {S : Type 0} (tells : Bool) (contents : S → Contents) (s : Setup) (before : List ℕ)
    (first limit : ℕ) (feeds : List Feed) (b : Bay) (at : S) (start now : Contents) →
    (over : RunOver tells contents s before (next_handle start) first limit feeds b at) → IsTrue tells →
    now.taken ≡ (contents at).taken → now.left ≡ (contents at).left → (x : ℕ) (f : Feed) (p : RigPort) →
    slice_get feeds x ≡ Some f → slice_get s.ins x ≡ Some p →
    LinkOver s limit start now over.links x f p
link-over tells contents s before first limit feeds b at start now over t taken left x f p is port = record {
  all = ended.all ∙ same-marks (track_spec f.link.reader) p.spec (track_of f.link.reader) p.track tape_then
      (tapes_of start now x) own.spec own.track tape;
  left = ap (λ (g : ℕ → List ℕ). g (link_handle start x)) left ∙ (ap (contents at).left (sym here) ∙ ended.left);
  below = let low = ended.below in let most = own.limit_is in let same = ap length tape in omega (arith, low, most, same);
  right = ap tape_fault (sym tape) ∙ ended.right;
  cut = ended.cut ∙ ap not (same-whole (track_spec f.link.reader) p.spec (track_of f.link.reader) p.track tape_then
      (tapes_of start now x) own.spec own.track tape);
}
  where
    st : RunStands tells contents s before (next_handle start) first limit feeds b at over.links over.play
    st = over.stands

    own : IsFeed p limit f.link.supply.handle f
    own = st.are.own x f p is port

    here : f.link.supply.handle ≡ link_handle start x
    here = st.are.here x f is t

    fed : FeedStands tells contents x f at (over.links.present x) (over.links.given x)
    fed = st.each x f is

    ended : FeedIsOver (contents at) f (over.links.given x)
    ended = feed-over tells contents x f at (over.links.present x) (over.links.given x)
        (key-none x f.record (sym fed.present_is ∙ over.over x)) t fed

    tape_then : List ℕ
    tape_then = (contents at).taken f.link.supply.handle

    tape : tape_then ≡ tapes_of start now x
    tape = ap (contents at).taken here ∙ ap (λ (g : ℕ → List ℕ). g (link_handle start x)) (sym taken)

-- what an out has that was finished
out-ended : (s : Setup) (m : Merger) (links : Links) (K : Key) (play : Play) (out : ℕ) (port : RigPort)
    (puts : List Put) (bytes : List ℕ) → Course s m links K play → m.draining ≡ false →
    ((x : ℕ) → links.present x ≡ None) → out < 16 → IsSpec port.spec →
    marks_put puts ≡ puts_to s.routes out play.passed → bytes ≡ written port.spec puts →
    IsOut s (report_of play.passed) out port bytes
out-ended s m links K play out port puts bytes course drained over low spec are is = record {
  puts = puts;
  exact = is;
  means = ap (den port.spec) is
      ∙ course-written s m links K play out port.spec puts course drained over low spec same;
  clean = ap (notes_of port.spec) is ∙ (laws port.spec).clean spec puts suits valid;
  ended = ap (whole port.spec) is ∙ (laws port.spec).whole_packets puts suits;
  stamps = λ has. out-stamps s m links K play out port.spec puts bytes course low has are is;
}
  where
    same : signs_in puts ≡ signs_in (puts_to s.routes out play.passed)
    same = sym (put-signs puts) ∙ ap signs_in are

    suits : suited (signs_in puts) ≡ true
    suits = ap suited same ∙ (course-suits s m links K play out course low).0

    valid : AreValid (signs_in puts)
    valid = ap (list_all is_valid) same ∙ (course-suits s m links K play out course low).1

-- a run that came to its end
pub record RunDone (s : Setup) (limit : ℕ) (start now : Contents) (feeds : List Feed) : Type 0 where
  pub through : ReadThrough s limit start now
  pub run : IsRun s start now
  pub whole : all_whole s (tapes_of start now) ≡ not (any_cut feeds)

pub run-done : {S : Type 0} (tells : Bool) (contents : S → Contents) (s : Setup) (first limit : ℕ)
    (feeds : List Feed) (b : Bay) (at then : S) (start : Contents) → IsRig s →
    (over : RunOver tells contents s (start.written 1) (next_handle start) first limit feeds b at) → IsTrue tells →
    first ≡ next_handle start + length s.ins →
    (contents then).taken ≡ (contents at).taken → (contents then).left ≡ (contents at).left →
    BayEnds tells contents s (start.written 1) first then over.play → RunDone s limit start (contents then) feeds
run-done tells contents s first limit feeds b at then start rig over t first_is taken left ends = record {
  through = record {
    all = λ x low. let f = fed x low in let p = port-at s.ins x low in (known x f.0 p.0 f.1 p.1).left;
    below = λ x low. let f = fed x low in let p = port-at s.ins x low in (known x f.0 p.0 f.1 p.1).below;
    right = λ x low. let f = fed x low in let p = port-at s.ins x low in (known x f.0 p.0 f.1 p.1).right;
  };
  run = record {
    report = report_of over.play.passed;
    text = ends.report t;
    merged = course-merged s b.router over.links (turn_key b.greatest) over.play
        (sources_of s (tapes_of start (contents then))) st.bay.course st.drained over.over
        (given-from over.links (tapes_of start (contents then)) 0 s.ins (λ x p is.
        let f = fed x (slice_get_within s.ins x p is) in
        subst (λ n. over.links.given n ≡ track_marks p.spec p.track (tapes_of start (contents then) n)) (omega arith)
        (known x f.0 p f.1 is).all));
    outs = λ out port is.
        let has = ends.outs out port is in
        out-ended s b.router over.links (turn_key b.greatest) over.play out port has.puts
        ((contents then).written (out_handle s start out)) st.bay.course st.drained over.over
        (let low = slice_get_within s.outs out port is in let few = st.bay.few in omega (arith, low, few))
        (spec-at s.outs out port rig.outs is) has.are
        (ap (contents then).written (omega (arith, first_is)) ∙ has.has t);
  };
  whole = sym (whole-from (tapes_of start (contents then)) 0 s.ins feeds st.are.many
      (λ x f p at_f at_p. (known x f p at_f at_p).cut
      ∙ ap (λ n. not (track_whole p.spec p.track (tapes_of start (contents then) n))) (omega arith)));
}
  where
    st : RunStands tells contents s (start.written 1) (next_handle start) first limit feeds b at over.links over.play
    st = over.stands

    fed : (x : ℕ) → x < length s.ins → (f : Feed) × (slice_get feeds x ≡ Some f)
    fed x low = feed-at feeds x (let many = st.are.many in omega (arith, low, many))

    known : (x : ℕ) (f : Feed) (p : RigPort) → slice_get feeds x ≡ Some f → slice_get s.ins x ≡ Some p →
        LinkOver s limit start (contents then) over.links x f p
    known = link-over tells contents s (start.written 1) first limit feeds b at start (contents then) over t taken left

-- a run that stopped

abbrev AreFronts : {S : Type 0} → Bool → (S → Contents) → List Feed → S → (given : ℕ → List Put) → Type 0
AreFronts tells contents feeds at given =
    (x : ℕ) (f : Feed) → slice_get feeds x ≡ Some f → FeedFront tells contents f at (given x)

pub merged-front : {S : Type 0} (tells : Bool) (contents : S → Contents) (s : Setup) (limit : ℕ) (feeds : List Feed)
    (at : S) (start : Contents) (m : Merger) (links : Links) (K : Key) (play : Play) (given : ℕ → List Put) →
    Course s m links K play → play.offered ≡ None → ((y : ℕ) → links.given y ≡ given y) →
    AreFeeds tells s (next_handle start) limit feeds → AreFronts tells contents feeds at given → IsTrue tells →
    IsMergedFront s (sources_of s (tapes_of start (contents at))) (report_of play.passed)
merged-front tells contents s limit feeds at start m links K play given course idle given_is are fronts t =
    course-stopped s m links K play (sources_of s (tapes_of start (contents at))) course idle
    (fronts-from links (tapes_of start (contents at)) 0 s.ins (λ x p is.
    let f = feed-at feeds x (let low = slice_get_within s.ins x p is in let many = are.many in
    omega (arith, low, many)) in
    let own = are.own x f.0 p f.1 is in
    let here = are.here x f.0 f.1 t in
    subst (λ n. IsFront (links.given n) (track_marks p.spec p.track (tapes_of start (contents at) n)))
    (omega arith)
    (subst (λ ps. IsFront ps (track_marks p.spec p.track (tapes_of start (contents at) x))) (sym (given_is x))
    (subst (IsFront (given x))
    (same-marks (track_spec f.0.link.reader) p.spec (track_of f.0.link.reader) p.track
    ((contents at).taken f.0.link.supply.handle) (tapes_of start (contents at) x) own.spec own.track
    (ap (contents at).taken here))
    ((fronts x f.0 f.1).front t)))))

pub few-read : {S : Type 0} (tells : Bool) (contents : S → Contents) (s : Setup) (limit : ℕ) (feeds : List Feed)
    (at : S) (start : Contents) (given : ℕ → List Put) → AreFeeds tells s (next_handle start) limit feeds →
    AreFronts tells contents feeds at given → IsTrue tells → FewRead s limit start (contents at)
few-read tells contents s limit feeds at start given are fronts t x low =
    let f = feed-at feeds x (let many = are.many in omega (arith, low, many)) in
    let p = port-at s.ins x low in
    let counted = (fronts x f.0 f.1).counted t in
    let most = (are.own x f.0 p.0 f.1 p.1).limit_is in
    let same = ap (λ h. length ((contents at).taken h)) (are.here x f.0 f.1 t) in
    omega (arith, counted.count, counted.within, most, same)

-- what an out has of what passed to it
pub out-front : {S : Type 0} (tells : Bool) (contents : S → Contents) (s : Setup) (first out handle : ℕ)
    (port : RigPort) (m : Merger) (links : Links) (K : Key) (play : Play) (at : S) (now : Contents) →
    Course s m links K play → out < 16 → IsSpec port.spec → OutLive tells contents s first out port at play →
    IsTrue tells → now.written ≡ (contents at).written → handle ≡ first + out →
    IsOutFront s (report_of play.passed) out port (now.written handle)
out-front tells contents s first out handle port m links K play at now course low spec has t written here = record {
  marks = signs_in has.puts;
  so_far = subst (λ ms. MeansSoFar ms (lines_to s.routes out (report_of play.passed))) (sym same)
      (course-heard s m links K play out course low);
  held = subst (λ bytes. HoldsBack port.spec (denotation (signs_in has.puts)) (den port.spec bytes))
      (sym (ap now.written here ∙ (ap (λ (g : ℕ → List ℕ). g (first + out)) written ∙ has.has t)))
      (holds-back port.spec has.puts spec (ap suited same ∙ fits.0) (ap (list_all is_valid) same ∙ fits.1));
}
  where
    same : signs_in has.puts ≡ signs_in (puts_to s.routes out play.passed)
    same = sym (put-signs has.puts) ∙ ap signs_in has.are

    fits : (suited (signs_in (puts_to s.routes out play.passed)) ≡ true)
        × AreValid (signs_in (puts_to s.routes out play.passed))
    fits = course-suits s m links K play out course low

pub out-low : (s : Setup) (out : ℕ) (port : RigPort) → length s.outs ≤ 16 → slice_get s.outs out ≡ Some port → out < 16
out-low s out port few is = let low = slice_get_within s.outs out port is in omega (arith, low, few)

pub run-front : {S : Type 0} (tells : Bool) (contents : S → Contents) (s : Setup) (first limit : ℕ)
    (feeds : List Feed) (b : Bay) (at : S) (start : Contents) → IsRig s → first ≡ next_handle start + length s.ins →
    RunStopped tells contents s (start.written 1) (next_handle start) first limit feeds b at → IsTrue tells →
    FewRead s limit start (contents at) × IsRunFront s start (contents at)
run-front tells contents s first limit feeds b at start rig first_is stopped t = (
  few-read tells contents s limit feeds at start stopped.links.given stopped.are stopped.fronts t,
  record {
    report = report_of stopped.play.passed;
    text = stopped.bay.report t;
    merged = merged-front tells contents s limit feeds at start b.router stopped.links (turn_key b.greatest)
        stopped.play stopped.links.given stopped.bay.course stopped.idle (λ y. refl) stopped.are stopped.fronts t;
    outs = λ out port is.
        out-front tells contents s first out (out_handle s start out) port b.router stopped.links (turn_key b.greatest)
        stopped.play at (contents at) stopped.bay.course (out-low s out port stopped.bay.few is)
        (spec-at s.outs out port rig.outs is)
        (bay-live tells contents s (start.written 1) first b at stopped.links stopped.play stopped.bay out port is) t
        refl (omega (arith, first_is));
  },
)

pub run-part : {S : Type 0} (tells : Bool) (contents : S → Contents) (s : Setup) (limit : ℕ) (feeds : List Feed)
    (at : S) (start : Contents) →
    RunBroken tells contents s (start.written 1) (next_handle start) limit feeds at → IsTrue tells →
    FewRead s limit start (contents at) × IsRunPart s start (contents at)
run-part tells contents s limit feeds at start r t =
    let b = r.broke in
    let part = b.part t in (
      few-read tells contents s limit feeds at start r.given r.are r.fronts t,
      record {
        report = report_of b.play.passed;
        told = part.0;
        text = part.2;
        begins = part.1;
        merged = merged-front tells contents s limit feeds at start b.router b.links b.greatest b.play r.given b.course
            b.idle b.given_is r.are r.fronts t;
      },
    )

part-of : (s : Setup) (start now : Contents) → IsRunFront s start now → IsRunPart s start now
part-of s start now front = record {
  report = front.report;
  told = text_of front.report;
  text = front.text;
  begins = ([], sym (append-nil (text_of front.report)));
  merged = front.merged;
}

-- what an end says where a link stops the run
pub front-merges : (s : Setup) (limit : ℕ) (start now : Contents) (tells : Bool) (end : RigEnd) → IsTrue tells →
    FewRead s limit start now → IsRunFront s start now → HaltsBy tells s (next_handle start) limit now end →
    Merges s limit start now end
front-merges s limit start now tells end.Done t few front by = absurd by
front-merges s limit start now tells end.Cut t few front by = absurd by
front-merges s limit start now tells end.ReadFault t few front by = (few, front)
front-merges s limit start now tells end.WriteFault t few front by = (few, part-of s start now front)
front-merges s limit start now tells (end.BadTape link fault) t few front by = (few, front, by.1 t)
front-merges s limit start now tells (end.TooLong link) t few front by =
    let long = by.1 t in (few, front, long.0, long.1)
front-merges s limit start now tells (end.Memory memory) t few front by = absurd by

pub stop-merges : {S : Type 0} (tells : Bool) (contents : S → Contents) (s : Setup) (first limit : ℕ)
    (feeds : List Feed) (b : Bay) (at : S) (start : Contents) (end : RigEnd) → IsRig s →
    first ≡ next_handle start + length s.ins → IsTrue tells →
    ByEnd end (RunStopped tells contents s (start.written 1) (next_handle start) first limit feeds b at)
    (RunBroken tells contents s (start.written 1) (next_handle start) limit feeds at)
    × HaltsBy tells s (next_handle start) limit (contents at) end → Merges s limit start (contents at) end
stop-merges tells contents s first limit feeds b at start end.Done rig first_is t by = absurd by.1
stop-merges tells contents s first limit feeds b at start end.Cut rig first_is t by = absurd by.1
stop-merges tells contents s first limit feeds b at start end.ReadFault rig first_is t by =
    run-front tells contents s first limit feeds b at start rig first_is by.0 t
stop-merges tells contents s first limit feeds b at start end.WriteFault rig first_is t by =
    run-part tells contents s limit feeds at start by.0 t
stop-merges tells contents s first limit feeds b at start (end.BadTape link fault) rig first_is t by =
    let r = run-front tells contents s first limit feeds b at start rig first_is by.0 t in (r.0, r.1, by.1.1 t)
stop-merges tells contents s first limit feeds b at start (end.TooLong link) rig first_is t by =
    let r = run-front tells contents s first limit feeds b at start rig first_is by.0 t in
    let long = by.1.1 t in (r.0, r.1, long.0, long.1)
stop-merges tells contents s first limit feeds b at start (end.Memory memory) rig first_is t by = absurd by.1

pub halts-link : (tells : Bool) (s : Setup) (base limit : ℕ) (now : Contents) (end : RigEnd) →
    HaltsBy tells s base limit now end → EndLink s end
halts-link tells s base limit now end.Done by = tt
halts-link tells s base limit now end.Cut by = tt
halts-link tells s base limit now end.ReadFault by = tt
halts-link tells s base limit now end.WriteFault by = tt
halts-link tells s base limit now (end.BadTape link fault) by = by.0
halts-link tells s base limit now (end.TooLong link) by = by.0
halts-link tells s base limit now (end.Memory memory) by = tt

-- the outs couldn't be finished
pub close-breaks : {S : Type 0} (tells : Bool) (contents : S → Contents) (s : Setup) (before : List ℕ)
    (base first limit count : ℕ) (feeds : List Feed) (b : Bay) (at then : S) →
    (over : RunOver tells contents s before base first limit feeds b at) → BayWrote tells contents first count at then →
    (IsTrue tells → (contents then).written 1 ≡ (contents at).written 1) →
    RunBroken tells contents s before base limit feeds then
close-breaks tells contents s before base first limit count feeds b at then over wrote same = record {
  given = over.links.given;
  broke = bay-broken tells contents s before first b at then over.links over.play over.stands.bay over.stands.drained
      same;
  are = over.stands.are;
  fronts = λ x f is. feed-stopped tells contents x f then (over.links.present x) (over.links.given x)
      (feed-wrote tells contents x first count f at then (over.links.present x) (over.links.given x) wrote
      (over.stands.each x f is));
}
