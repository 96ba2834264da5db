-- A step of a link, mark by mark.
use Rattle.std.proofs.Common.{◌≡◌, ◌≢◌, ◌≤◌, ◌<◌, ◌+◌, ℕ, Bool, true, false, List, [], ◌∷◌, ◌++◌}
use Rattle.std.proofs.Common.{refl, sym, ◌∙◌, ap, subst, arith, IsTrue, Option, Some, None}
use Rattle.std.specs.Prelude.{if◌then◌else◌}
use Rattle.std.proofs.lemmas.Bool.Decides.{nat_tests}
use Rattle.mb_message.specs.Signs.{Sign, sign_of}
use Rattle.mb_message.specs.declared.mark.Mark.{Mark}
use Rattle.mb_stream.specs.Puts.{Put, At}
use Rattle.mb_outside.specs.Contents.{Contents, is_writable}
use Rattle.mb_merge.specs.Links.{Merger}
use Rattle.mb_rig.specs.RigText.{Setup}
use Rattle.mb_rig.specs.Link.{StopsAt, TookFrom}
use Rattle.mb_rig.specs.Outs.{OutsStand}
use Rattle.mb_rig.specs.Bay.{BayBroke, BayGoes, BayStands, BayWrote, HasRoom, MayHand, turn_key}
use Rattle.mb_rig.specs.Feed.{FeedFront, FeedGave, FeedGoes, FeedStands, FeedTurned, count_waiting, feed_owed}
use Rattle.mb_rig.specs.Feed.{key_by, waiting_by}
use Rattle.mb_rig.specs.Running.{RunTouched}
use Rattle.mb_rig.specs.Step.{OthersKeep, StepBroke, StepEnds, StepMay, StepStops, StepUnder}
use Rattle.mb_rig.specs.Merging.Lines.{Key, is_below, key_at}
use Rattle.mb_rig.specs.Merging.Run.{AtMost}
use Rattle.mb_rig.specs.Merging.Playing.{Play}
use Rattle.mb_rig.specs.Merging.Course.{Course, Links, gives, greater, renews, stalls}
use Rattle.mb_rig.specs.declared.bay.Bay.{Bay}
use Rattle.mb_rig.specs.declared.feed.Feed.{Feed}
use Rattle.mb_rig.specs.declared.link.LinkStop.{LinkStop}
use Rattle.mb_rig.specs.declared.outlet.Outlet.{Outlet}
use Rattle.mb_rig.specs.declared.turn.Turn.{Turn}
use Rattle.mb_rig.proofs.FeedLemmas.{feed-stopped, feed-wrote, none-waits}
use Rattle.mb_rig.proofs.BayLemmas.{bay-broken}
use Rattle.mb_rig.proofs.OutsLemmas.{entry-other}
use Rattle.mb_rig.proofs.Merging.CourseSteps.{course-begins, course-renews}
use Rattle.mb_rig.proofs.Merging.Given.{elsewhere, here-same}
use Rattle.mb_rig.proofs.Merging.Lateness.{none≢some, some_same, true≢false}

-- a step under way, and what became of the other links since it began
pub record StepGoes {S : Type 0} (tells : Bool) (contents : S → Contents) (s : Setup) (before : List ℕ) (first : ℕ)
    (x moment : ℕ) (m : Merger) (f : Feed) (b : Bay) (at : S) (links : Links) : Type 0 where
  pub links_now : Links
  pub play : Play
  pub under : StepUnder tells contents s before first x moment f b at links_now play
  pub others : OthersKeep m links b.router links_now x

-- the other links

others-none : (m : Merger) (links : Links) (x : ℕ) → OthersKeep m links m links x
others-none m links x = record {
  present = λ y apart. refl;
  given = λ y apart. refl;
  free = λ y apart free. free;
  room = λ y apart room. room;
}

others-then : (m n r : Merger) (links mid now : Links) (x : ℕ) → OthersKeep m links n mid x →
    OthersKeep n mid r now x → OthersKeep m links r now x
others-then m n r links mid now x first second = record {
  present = λ y apart. second.present y apart ∙ first.present y apart;
  given = λ y apart. second.given y apart ∙ first.given y apart;
  free = λ y apart free. second.free y apart (first.free y apart free);
  room = λ y apart room. second.room y apart (first.room y apart room);
}

others-went : {S : Type 0} (tells : Bool) (contents : S → Contents) (s : Setup) (before : List ℕ) (first : ℕ)
    (old new : Bay) (at : S) (links : Links) (x moment : ℕ) (sign : Sign) →
    (went : BayGoes tells contents s before first old new at links x (gives links x moment sign).given) →
    OthersKeep old.router links new.router went.links_now x
others-went tells contents s before first old new at links x moment sign went = record {
  present = λ y apart. went.present y;
  given = λ y apart. went.given_is y ∙ elsewhere links.given x (links.given x ++ At moment sign ∷ []) y apart;
  free = λ y apart free. went.free y free;
  room = went.room;
}

others-stalls : (m n : Merger) (links : Links) (x : ℕ) → n ≡ m → OthersKeep m links n (stalls links x) x
others-stalls m n links x same = record {
  present = λ y apart. refl;
  given = λ y apart. refl;
  free = λ y apart free. elsewhere links.stalled x true y apart ∙ free;
  room = λ y apart room free. subst (λ (z : Merger). HasRoom z links y) (sym same) room
      (sym (elsewhere links.stalled x true y apart) ∙ free);
}

others-renews : (m : Merger) (links : Links) (x : ℕ) (next : Option Key) → OthersKeep m links m (renews links x next) x
others-renews m links x next = record {
  present = λ y apart. elsewhere links.present x next y apart;
  given = λ y apart. refl;
  free = λ y apart free. free;
  room = λ y apart room. room;
}

-- a link's tape was read

pub outs-read : {S : Type 0} (tells : Bool) (contents : S → Contents) (first : ℕ) (outs : List Outlet) (at now : S)
    (putss : List (List Put)) → (IsTrue tells → (contents now).written ≡ (contents at).written) →
    (IsTrue tells → (contents now).given ≡ (contents at).given) →
    OutsStand tells contents first outs at putss → OutsStand tells contents first outs now putss
outs-read tells contents first [] at now [] written given st = tt
outs-read tells contents first [] at now (ps ∷ pss) written given st = st
outs-read tells contents first (o ∷ os) at now [] written given st = st
outs-read tells contents first (o ∷ os) at now (ps ∷ pss) written given st = (
  st.0,
  record {
    stands = st.1.stands;
    writable = λ t. writable-by (contents at) (contents now) o.handle (given t) ∙ st.1.writable t;
    has = λ t. ap (λ (g : ℕ → List ℕ). g o.handle) (written t) ∙ st.1.has t;
  },
  outs-read tells contents (first + 1) os at now pss written given st.2,
)
  where
    writable-by : (c d : Contents) (h : ℕ) → d.given ≡ c.given → is_writable d h ≡ is_writable c h
    writable-by c d h e = ap (λ g. is_writable (record c { given = g }) h) e

pub bay-read : {S : Type 0} (tells : Bool) (contents : S → Contents) (s : Setup) (before : List ℕ) (first : ℕ)
    (b : Bay) (at now : S) (links : Links) (play : Play) (handle : ℕ) →
    (IsTrue tells → TookFrom handle (contents at) (contents now)) →
    BayStands tells contents s before first b at links play → BayStands tells contents s before first b now links play
bay-read tells contents s before first b at now links play handle took st = record {
  course = st.course;
  stalled = st.stalled;
  putss = st.putss;
  outs = outs-read tells contents first b.outs.items at now st.putss
      (λ t. ap (λ (c : Contents). c.written) (took t).contents)
      (λ t. ap (λ (c : Contents). c.given) (took t).contents) st.outs;
  handed = st.handed;
  many = st.many;
  few = st.few;
  few_links = st.few_links;
  flags = st.flags;
  specs = st.specs;
  report = λ t. ap (λ (c : Contents). c.written 1) (took t).contents ∙ st.report t;
  behind = st.behind;
}

-- a step begins

at_most-self : (k : Key) → AtMost k k
at_most-self k = grind (arith, nat_tests)

at_most-greater : (K k : Key) → AtMost k (greater K k)
at_most-greater K k = by_test (is_below K k) refl where
  by_test : (c : Bool) → is_below K k ≡ c → is_below (if c then k else K) k ≡ false
  by_test true e = at_most-self k
  by_test false e = e

pub step-begun : {S : Type 0} (tells : Bool) (contents : S → Contents) (s : Setup) (before : List ℕ) (first : ℕ)
    (x moment : ℕ) (f : Feed) (was : Bay) (turn : Turn) (at : S) (links : Links) (play : Play) →
    turn_key turn ≡ greater (turn_key was.greatest) (key_at moment x) →
    StepMay tells contents s before first x moment f was at links play →
    StepUnder tells contents s before first x moment f (record was { greatest = turn }) at links play
step-begun tells contents s before first x moment f was turn at links play key may = record {
  stands = record {
    course = subst (λ (k : Key). Course s was.router links k play) (sym key)
        (course-begins s was.router links (turn_key was.greatest) play (key_at moment x) may.stands.course may.drained
        may.least);
    stalled = may.stands.stalled;
    putss = may.stands.putss;
    outs = may.stands.outs;
    handed = may.stands.handed;
    many = may.stands.many;
    few = may.stands.few;
    few_links = may.stands.few_links;
    flags = may.stands.flags;
    specs = may.stands.specs;
    report = may.stands.report;
    behind = may.stands.behind;
  };
  drained = may.drained;
  feed = may.feed;
  source = may.source;
  here = may.here;
  free = may.free;
  within = subst (AtMost (key_at moment x)) (sym key) (at_most-greater (turn_key was.greatest) (key_at moment x));
  room = may.room;
}

pub step-starts : {S : Type 0} (tells : Bool) (contents : S → Contents) (s : Setup) (before : List ℕ) (first : ℕ)
    (x moment : ℕ) (f : Feed) (b : Bay) (at : S) (links : Links) (play : Play) →
    StepUnder tells contents s before first x moment f b at links play →
    StepGoes tells contents s before first x moment b.router f b at links
step-starts tells contents s before first x moment f b at links play under = record {
  links_now = links;
  play = play;
  under = under;
  others = others-none b.router links x;
}

-- what is known as a mark is handed on
pub record MarkKnown {S : Type 0} (tells : Bool) (contents : S → Contents) (s : Setup) (before : List ℕ) (first : ℕ)
    (x moment : ℕ) (f g : Feed) (b : Bay) (at : S) (links : Links) (play : Play) (mark : Mark) : Type 0 where
  pub gave : FeedGave tells contents x f g at (links.present x) (links.given x) moment mark
  pub stands : BayStands tells contents s before first b at links play
  pub may : MayHand s b links x moment mark

pub step-knows : {S : Type 0} (tells : Bool) (contents : S → Contents) (s : Setup) (before : List ℕ) (first : ℕ)
    (x moment : ℕ) (m : Merger) (f g : Feed) (b : Bay) (at now : S) (links : Links) (next : Option Mark)
    (mark : Mark) → (goes : StepGoes tells contents s before first x moment m f b at links) → next ≡ Some mark →
    ((x moment : ℕ) (present : Option Key) (given : List Put) → FeedStands tells contents x f at present given →
    f.record ≡ Some moment → FeedGoes tells contents x f g now present given moment next) →
    (IsTrue tells → TookFrom f.link.supply.handle (contents at) (contents now)) →
    MarkKnown tells contents s before first x moment f g b now goes.links_now goes.play mark
step-knows tells contents s before first x moment m f g b at now links next mark goes is gives took =
    let under = goes.under in
    let present = goes.links_now.present x in
    let given = goes.links_now.given x in
    let gave = subst (λ (o : Option Mark). FeedGoes tells contents x f g now present given moment o) is
    (gives x moment present given under.feed under.here) in
    record {
      gave = gave;
      stands = bay-read tells contents s before first b at now goes.links_now goes.play f.link.supply.handle took
          under.stands;
      may = record {
        source = under.source;
        free = under.free;
        here = under.feed.present_is ∙ ap (key_by x) under.here;
        within = under.within;
        suits = gave.suits;
        drained = under.drained;
      };
    }

-- a mark was taken
pub step-takes : {S : Type 0} (tells : Bool) (contents : S → Contents) (s : Setup) (before : List ℕ)
    (first count : ℕ) (x moment : ℕ) (m : Merger) (f g : Feed) (b c : Bay) (at mid now : S) (links : Links)
    (mark : Mark) → (goes : StepGoes tells contents s before first x moment m f b at links) →
    FeedGave tells contents x f g mid (goes.links_now.present x) (goes.links_now.given x) moment mark →
    BayWrote tells contents first count mid now → c.greatest ≡ b.greatest →
    BayGoes tells contents s before first b c now goes.links_now x
    (gives goes.links_now x moment (sign_of mark)).given →
    StepGoes tells contents s before first x moment m g c now links
step-takes tells contents s before first count x moment m f g b c at mid now links mark goes gave wrote greatest went =
    let was = goes.links_now in
    let moved = feed-wrote tells contents x first count g mid now _ _ wrote gave.stands in
    record {
      links_now = went.links_now;
      play = went.play;
      under = record {
        stands = went.stands;
        drained = went.drained;
        feed =
            subst (λ (p : Option Key). FeedStands tells contents x g now p (went.links_now.given x))
            (sym (went.present x))
            (subst (λ (ps : List Put). FeedStands tells contents x g now (was.present x) ps)
            (sym (went.given_is x ∙ here-same was.given x (was.given x ++ At moment (sign_of mark) ∷ []))) moved);
        source = goes.under.source;
        here = gave.record_is ∙ goes.under.here;
        free = went.free x goes.under.free;
        within = subst (λ (t : Turn). AtMost (key_at moment x) (turn_key t)) (sym greatest) goes.under.within;
        room = λ waits. absurd (waits gave.none);
      };
      others =
          others-then m b.router c.router links was went.links_now x goes.others
          (others-went tells contents s before first b c now was x moment (sign_of mark) went);
    }

-- its ring is full
pub step-stalls : {S : Type 0} (tells : Bool) (contents : S → Contents) (s : Setup) (before : List ℕ)
    (first count : ℕ) (x moment : ℕ) (m : Merger) (f g : Feed) (b c : Bay) (at mid now : S) (links : Links)
    (mark : Mark) → (goes : StepGoes tells contents s before first x moment m f b at links) →
    FeedGave tells contents x f g mid (goes.links_now.present x) (goes.links_now.given x) moment mark →
    BayWrote tells contents first count mid now → c.router ≡ b.router →
    BayStands tells contents s before first c now (stalls goes.links_now x) goes.play →
    StepEnds tells contents s before first x m (record g { waiting = Some mark }) c now links
step-stalls tells contents s before first count x moment m f g b c at mid now links mark goes gave wrote router st =
    let was = goes.links_now in
    let moved = feed-wrote tells contents x first count g mid now _ _ wrote gave.stands in
    record {
      links_now = stalls was x;
      play = goes.play;
      stands = st;
      drained = ap (λ (z : Merger). z.draining) router ∙ goes.under.drained;
      feed = record {
        told = moved.told;
        stands = moved.stands;
        given_is =
            none-waits tells contents x g now (was.present x) _ gave.none moved
            ∙ ap (λ (o : Option ℕ). was.given x ++ waiting_by o (Some mark))
            (sym (gave.record_is ∙ goes.under.here));
        present_is = moved.present_is;
        moment = moved.moment;
        over = moved.over;
      };
      room = λ waits free. absurd (true≢false (sym (here-same was.stalled x true) ∙ free));
      others =
          others-then m b.router c.router links was (stalls was x) x goes.others
          (others-stalls b.router c.router was x router);
    }

-- its record is used up

next-key : (x moment : ℕ) (o : Option ℕ) → ((next : ℕ) → o ≡ Some next → moment ≤ next) → (c : Key) →
    key_by x o ≡ Some c → AtMost (key_at moment x) c × (c.link ≡ x)
next-key x moment None later c e = absurd (none≢some c e)
next-key x moment (Some next) later c e =
    subst (λ (k : Key). AtMost (key_at moment x) k × (k.link ≡ x)) (some_same e)
    (not_below next (later next refl), refl)
  where
    not_below : (n : ℕ) → moment ≤ n → is_below (key_at n x) (key_at moment x) ≡ false
    not_below n le = grind (arith, nat_tests)

none-key : (x : ℕ) (o : Option ℕ) → key_by x o ≡ None → o ≡ None
none-key x None e = refl
none-key x (Some n) e = absurd (none≢some (key_at n x) (sym e))

pub step-turns : {S : Type 0} (tells : Bool) (contents : S → Contents) (s : Setup) (before : List ℕ) (first : ℕ)
    (x moment handle : ℕ) (m : Merger) (f g : Feed) (b : Bay) (at now : S) (links : Links) →
    (goes : StepGoes tells contents s before first x moment m f b at links) →
    FeedTurned tells contents x g now (goes.links_now.given x) moment →
    (IsTrue tells → TookFrom handle (contents at) (contents now)) →
    StepEnds tells contents s before first x m g b now links
step-turns tells contents s before first x moment handle m f g b at now links goes turned took =
    let was = goes.links_now in
    let under = goes.under in
    let next = key_by x g.record in
    let st = bay-read tells contents s before first b at now was goes.play handle took under.stands in
    record {
      links_now = renews was x next;
      play = goes.play;
      stands = record {
        course = course-renews s b.router was (turn_key b.greatest) goes.play x (key_at moment x) next st.course
            under.drained under.free (under.feed.present_is ∙ ap (key_by x) under.here) (record {
              later = next-key x moment g.record turned.later;
              closed = λ none. turned.closed (none-key x g.record none);
            });
        stalled = st.stalled;
        putss = st.putss;
        outs = st.outs;
        handed = st.handed;
        many = st.many;
        few = st.few;
        few_links = st.few_links;
        flags = st.flags;
        specs = st.specs;
        report = st.report;
        behind = st.behind;
      };
      drained = under.drained;
      feed =
          subst (λ (p : Option Key). FeedStands tells contents x g now p (was.given x))
          (sym (here-same was.present x next)) turned.stands;
      room = λ waits. absurd (waits turned.none);
      others =
          others-then m b.router b.router links was (renews was x next) x goes.others
          (others-renews b.router was x next);
    }

-- the link stops it
pub step-stops : {S : Type 0} (tells : Bool) (contents : S → Contents) (s : Setup) (before : List ℕ) (first : ℕ)
    (x moment handle : ℕ) (m : Merger) (f g : Feed) (b : Bay) (at now : S) (links : Links) →
    (goes : StepGoes tells contents s before first x moment m f b at links) →
    FeedFront tells contents g now (goes.links_now.given x) →
    (IsTrue tells → TookFrom handle (contents at) (contents now)) →
    StepStops tells contents s before first x m g b now links
step-stops tells contents s before first x moment handle m f g b at now links goes front took = record {
  links_now = goes.links_now;
  play = goes.play;
  stands = bay-read tells contents s before first b at now goes.links_now goes.play handle took goes.under.stands;
  drained = goes.under.drained;
  front = front;
  others = goes.others;
}

-- a write fails as its mark is handed on
pub step-breaks : {S : Type 0} (tells : Bool) (contents : S → Contents) (s : Setup) (before : List ℕ)
    (first count : ℕ) (x moment : ℕ) (m : Merger) (f g : Feed) (b : Bay) (at mid now : S) (links : Links)
    (mark : Mark) → (goes : StepGoes tells contents s before first x moment m f b at links) →
    FeedGave tells contents x f g mid (goes.links_now.present x) (goes.links_now.given x) moment mark →
    BayWrote tells contents first count mid now →
    BayBroke tells contents s before now (gives goes.links_now x moment (sign_of mark)).given →
    StepBroke tells contents s before x g now links
step-breaks tells contents s before first count x moment m f g b at mid now links mark goes gave wrote broke =
    let was = goes.links_now in
    let more = was.given x ++ At moment (sign_of mark) ∷ [] in
    record {
      given = (gives was x moment (sign_of mark)).given;
      broke = broke;
      front = subst (FeedFront tells contents g now) (sym (here-same was.given x more))
          (feed-stopped tells contents x g now _ more (feed-wrote tells contents x first count g mid now _ _ wrote
          gave.stands));
      others = λ y apart. elsewhere was.given x more y apart ∙ goes.others.given y apart;
    }

-- or as its packets are ended
pub end-breaks : {S : Type 0} (tells : Bool) (contents : S → Contents) (s : Setup) (before : List ℕ)
    (first count : ℕ) (x : ℕ) (m : Merger) (f : Feed) (b : Bay) (at now : S) (links : Links) →
    (ends : StepEnds tells contents s before first x m f b at links) →
    BayWrote tells contents first count at now → (IsTrue tells → (contents now).written 1 ≡ (contents at).written 1) →
    StepBroke tells contents s before x f now links
end-breaks tells contents s before first count x m f b at now links ends wrote same = record {
  given = ends.links_now.given;
  broke = bay-broken tells contents s before first b at now ends.links_now ends.play ends.stands ends.drained same;
  front = feed-stopped tells contents x f now _ _ (feed-wrote tells contents x first count f at now _ _ wrote ends.feed);
  others = ends.others.given;
}

-- each out ended its packet
pub step-ended : {S : Type 0} (tells : Bool) (contents : S → Contents) (s : Setup) (before : List ℕ)
    (first count : ℕ) (x : ℕ) (m n : Merger) (f : Feed) (b c : Bay) (at now : S) (links : Links) →
    (ends : StepEnds tells contents s before first x m f b at links) → c.router ≡ b.router → m ≡ n →
    BayWrote tells contents first count at now →
    BayStands tells contents s before first c now ends.links_now ends.play →
    StepEnds tells contents s before first x n f c now links
step-ended tells contents s before first count x m n f b c at now links ends router start wrote st = record {
  links_now = ends.links_now;
  play = ends.play;
  stands = st;
  drained = ap (λ (z : Merger). z.draining) router ∙ ends.drained;
  feed = feed-wrote tells contents x first count f at now _ _ wrote ends.feed;
  room = λ waits. subst (λ (z : Merger). HasRoom z ends.links_now x) (sym router) (ends.room waits);
  others = subst (λ (z : Merger). OthersKeep n links z ends.links_now x) (sym router)
      (subst (λ (z : Merger). OthersKeep z links b.router ends.links_now x) start ends.others);
}

-- a mark that waited is taken: a link that has room isn't stalled
pub waits-none : (waiting : Option Mark) (P : Type 0) → (waiting ≢ None → P) → (P → ⊥) → waiting ≡ None
waits-none None P room full = refl
waits-none (Some mark) P room full = absurd (full (room (λ e. none≢some mark (sym e))))

pub owed-waits : (g : Feed) (mark : Mark) → g.waiting ≡ None →
    feed_owed (record g { waiting = Some mark }) ≡ feed_owed g + 1
owed-waits g mark none = let count = ap count_waiting none in omega (arith, count)

-- why a link stops it, from the step's beginning on
pub stops-at : (limit start : ℕ) (tape all : List ℕ) (stop : LinkStop) → limit ≡ start → tape ≡ all →
    StopsAt limit tape stop → StopsAt start all stop
stops-at limit start tape all stop same same_tape stops =
    subst (λ (n : ℕ). StopsAt n all stop) same (subst (λ (xs : List ℕ). StopsAt limit xs stop) same_tape stops)

-- what a step touches

pub touched-none : {S : Type 0} (tells : Bool) (contents : S → Contents) (base count first outs : ℕ) (at : S) →
    RunTouched tells contents base count first outs at at
touched-none tells contents base count first outs at = record {
  given = λ t. refl;
  left = λ t h apart. refl;
  taken = λ t h apart. refl;
  written = λ t h not_report apart. refl;
}

pub touched-then : {S : Type 0} (tells : Bool) (contents : S → Contents) (base count first outs : ℕ) (a b c : S) →
    RunTouched tells contents base count first outs a b → RunTouched tells contents base count first outs b c →
    RunTouched tells contents base count first outs a c
touched-then tells contents base count first outs a b c x y = record {
  given = λ t. y.given t ∙ x.given t;
  left = λ t h apart. y.left t h apart ∙ x.left t h apart;
  taken = λ t h apart. y.taken t h apart ∙ x.taken t h apart;
  written = λ t h not_report apart. y.written t h not_report apart ∙ x.written t h not_report apart;
}

pub touched-took : {S : Type 0} (tells : Bool) (contents : S → Contents) (handle base first outs : ℕ) (at now : S) →
    handle ≡ base → (IsTrue tells → TookFrom handle (contents at) (contents now)) →
    RunTouched tells contents base 1 first outs at now
touched-took tells contents handle base first outs at now same took = record {
  given = λ t. ap (λ (c : Contents). c.given) (took t).contents;
  left = λ t h apart.
      ap (λ (c : Contents). c.left h) (took t).contents
      ∙ entry-other (contents at).left handle _ h (away h apart);
  taken = λ t h apart.
      ap (λ (c : Contents). c.taken h) (took t).contents
      ∙ entry-other (contents at).taken handle _ h (away h apart);
  written = λ t h not_report apart. ap (λ (c : Contents). c.written h) (took t).contents;
}
  where
    away : (h : ℕ) → (base ≤ h → h < base + 1 → ⊥) → h ≢ handle
    away h apart e = apart (omega (arith, e, same)) (omega (arith, e, same))

pub touched-wrote : {S : Type 0} (tells : Bool) (contents : S → Contents) (base count first outs all : ℕ)
    (at now : S) → outs ≡ all → BayWrote tells contents first outs at now →
    RunTouched tells contents base count first all at now
touched-wrote tells contents base count first outs all at now same wrote = record {
  given = wrote.given;
  left = λ t h apart. ap (λ (g : ℕ → List ℕ). g h) (wrote.left t);
  taken = λ t h apart. ap (λ (g : ℕ → List ℕ). g h) (wrote.taken t);
  written = λ t h not_report apart.
      wrote.others t h not_report (λ low high. apart low (omega (arith, high, same)));
}

-- a tape is read, and then marks are written
pub touched-on : {S : Type 0} (tells : Bool) (contents : S → Contents) (handle base first outs all : ℕ)
    (a b c d : S) → handle ≡ base → outs ≡ all → RunTouched tells contents base 1 first all a b →
    (IsTrue tells → TookFrom handle (contents b) (contents c)) → BayWrote tells contents first outs c d →
    RunTouched tells contents base 1 first all a d
touched-on tells contents handle base first outs all a b c d same many touched took wrote =
    touched-then tells contents base 1 first all a c d
    (touched-then tells contents base 1 first all a b c touched
    (touched-took tells contents handle base first all b c same took))
    (touched-wrote tells contents base 1 first outs all c d many wrote)

-- one link of a run stepped
pub touched-within : {S : Type 0} (tells : Bool) (contents : S → Contents) (handle base count first outs : ℕ)
    (at now : S) → (IsTrue tells → (base ≤ handle) × (handle < base + count)) →
    RunTouched tells contents handle 1 first outs at now → RunTouched tells contents base count first outs at now
touched-within tells contents handle base count first outs at now within touched = record {
  given = touched.given;
  left = λ t h apart. touched.left t h (away t h apart);
  taken = λ t h apart. touched.taken t h (away t h apart);
  written = touched.written;
}
  where
    away : IsTrue tells → (h : ℕ) → (base ≤ h → h < base + count → ⊥) → handle ≤ h → h < handle + 1 → ⊥
    away t h apart low high =
        let w = within t in
        apart (omega (arith, w.0, low)) (omega (arith, w.1, low, high))
