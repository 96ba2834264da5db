-- The bay of a run: what a mark that passes, one that is offered, and the end of a step leave of it.
use Rattle.std.proofs.Common.{◌≡◌, ◌≢◌, ⊎_elim, ℕ, zero, suc, ◌+◌, ◌<◌, ◌≤◌, Bool, true, false, List, [], ◌∷◌}
use Rattle.std.proofs.Common.{◌++◌, length, map, Option, Some, None, IsTrue, get_or, refl, ap, sym, subst, ◌∙◌, arith}
use Rattle.std.specs.Prelude.{◌/◌, ◌↔◌, IsErr, Ok, Result, slice_get, slice_set, slice_index_or}
use Rattle.std.proofs.lemmas.Bool.{false≢true}
use Rattle.std.proofs.Common.{append_assoc, append-nil}
use Rattle.std.proofs.lemmas.List.{get_or-set_other, get_or-set_same, length-map, length-set}
use Rattle.std.proofs.lemmas.List.FromFn.{get_or-map-range_with_len, length-map-range_with_len}
use Rattle.std.proofs.lemmas.Bool.Decides.{nat_tests}
use Rattle.arrayvec.specs.ArrayVec.{ArrayVec, with_items}
use Rattle.arrayvec.proofs.ArrayVecLemmas.{items-with_items}
use Rattle.mb_message.specs.Front.{IsFront}
use Rattle.mb_message.specs.declared.mark.Mark.{Mark}
use Rattle.mb_message.specs.Signs.{Sign, sign_of, suits_sign}
use Rattle.mb_stream.specs.Puts.{Put, At, Flush, signs_in}
use Rattle.mb_stream.specs.Standing.{is_open}
use Rattle.mb_outside.specs.Contents.{Contents}
use Rattle.mb_outside.specs.Taking.{Wrote}
use Rattle.mb_carrier.specs.Carrier.{live, written}
use Rattle.mb_carrier.specs.Port.{writer_in_sysex}
use Rattle.mb_carrier.proofs.PortLemmas.{open-by}
use Rattle.mb_merge.specs.declared.router.Passed.{Passed}
use Rattle.mb_merge.specs.Links.{Merger, link_of}
use Rattle.mb_merge.specs.Opening.{outs_of, stands_in}
use Rattle.mb_merge.specs.Passing.{has_room, next_of, offered_in, passes_now}
use Rattle.mb_rig.specs.RigText.{RigPort, Setup}
use Rattle.mb_rig.specs.Right.{specs_of}
use Rattle.mb_rig.specs.Outlet.{OutletStands, outlet_spec}
use Rattle.mb_rig.specs.Outs.{AllSuit, OutsEnded, OutsStand, SuitsWhere, WroteAmong, flush_puts, pass_puts}
use Rattle.mb_rig.specs.PassedOn.{PassedOn}
use Rattle.mb_rig.specs.PassingLine.{passing_text}
use Rattle.mb_rig.specs.declared.outlet.Outlet.{Outlet}
use Rattle.mb_rig.specs.declared.bay.Bay.{Bay}
use Rattle.mb_rig.specs.Merging.Lines.{Key, arrival_of, key_at}
use Rattle.mb_rig.specs.Merging.Report.{goes, text_of}
use Rattle.mb_rig.specs.Merging.Playing.{PassedTag, Play, report_of, takes}
use Rattle.mb_rig.specs.Merging.Ended.{put_where, puts_to}
use Rattle.mb_rig.specs.Merging.Course.{Course, Links, at_link, freed, gives, next_tag, stalls, start_of}
use Rattle.mb_rig.specs.Merging.Passes.{Passes, PassesOn}
use Rattle.mb_rig.specs.Bay.{AreHanded, BayBroke, BayEnds, BayGoes, BayStands, BayWrote, HasRoom, KeepRoom, OffersOf, OutHas}
use Rattle.mb_rig.specs.Bay.{MayHand, is_stalled, marks_put, turn_key}
use Rattle.mb_rig.proofs.Merging.Given.{elsewhere, here-same}
use Rattle.mb_rig.proofs.Merging.Lateness.{none≢some, same_or_not, some_same}
use Rattle.mb_rig.proofs.Merging.Reached.{reached-fits, reached-outs, reached-sources}
use Rattle.mb_rig.proofs.Merging.CourseMarks.{no-offer}
use Rattle.mb_rig.proofs.Merging.CourseKnows.{passes-suits}
use Rattle.mb_rig.proofs.Merging.CourseNext.{course-next}
use Rattle.mb_rig.proofs.Merging.CourseSteps.{course-stalls}
use Rattle.mb_rig.proofs.Merging.CourseTakes.{course-takes}
use Rattle.mb_rig.proofs.Merging.PassesTold.{passes-put, passes-told}
use Rattle.mb_rig.proofs.Merging.RoomLemmas.{next-idle, next-none, next-offers, offers-own, offers-some, reached-few, room-next}
use Rattle.mb_rig.proofs.Merging.RoomLemmas.{room-offer}

-- flushes aside

pub put-signs : (puts : List Put) → signs_in (marks_put puts) ≡ signs_in puts
put-signs [] = refl
put-signs (At moment sign ∷ puts) = ap (λ (ms : List Sign). sign ∷ ms) (put-signs puts)
put-signs (Flush ∷ puts) = put-signs puts

marks_put-push : (puts : List Put) (moment : ℕ) (sign : Sign) →
    marks_put (puts ++ At moment sign ∷ []) ≡ marks_put puts ++ At moment sign ∷ []
marks_put-push [] moment sign = refl
marks_put-push (At n m ∷ puts) moment sign = ap (λ (ps : List Put). At n m ∷ ps) (marks_put-push puts moment sign)
marks_put-push (Flush ∷ puts) moment sign = marks_put-push puts moment sign

marks_put-flush : (puts : List Put) → marks_put (puts ++ Flush ∷ []) ≡ marks_put puts
marks_put-flush [] = refl
marks_put-flush (At n m ∷ puts) = ap (λ (ps : List Put). At n m ∷ ps) (marks_put-flush puts)
marks_put-flush (Flush ∷ puts) = marks_put-flush puts

put-here : (c : Bool) (moment : ℕ) (sign : Sign) (ps was now : List Put) → marks_put ps ≡ was →
    now ≡ put_where c (At moment sign) was → marks_put (put_where c (At moment sign) ps) ≡ now
put-here true moment sign ps was now same is =
    marks_put-push ps moment sign ∙ (ap (λ (xs : List Put). xs ++ At moment sign ∷ []) same ∙ sym is)
put-here false moment sign ps was now same is = same ∙ sym is

-- what each out was put

abbrev Goes : (List (ℕ × ℕ)) → (source out : ℕ) → List Bool → Type 0
Goes routes source out gs = (i : ℕ) → i < length gs → get_or gs i false ≡ goes routes source (out + i)

goes-behind : (routes : List (ℕ × ℕ)) (source out : ℕ) (g : Bool) (gs : List Bool) → Goes routes source out (g ∷ gs) →
    Goes routes source (out + 1) gs
goes-behind routes source out g gs each i below =
    each (suc i) (omega (arith, below)) ∙ ap (goes routes source) (omega arith)

handed-pass : (routes : List (ℕ × ℕ)) (source out moment : ℕ) (sign : Sign) (gs : List Bool)
    (putss : List (List Put)) (passed after : List PassedTag) → length putss ≤ length gs →
    Goes routes source out gs →
    ((o : ℕ) → puts_to routes o after ≡ put_where (goes routes source o) (At moment sign) (puts_to routes o passed)) →
    AreHanded routes out putss passed → AreHanded routes out (pass_puts gs (At moment sign) putss) after
handed-pass routes source out moment sign gs [] passed after few each adds handed = tt
handed-pass routes source out moment sign [] (ps ∷ pss) passed after few each adds handed = absurd (omega (arith, few))
handed-pass routes source out moment sign (g ∷ gs) (ps ∷ pss) passed after few each adds handed = (
  put-here g moment sign ps (puts_to routes out passed) (puts_to routes out after) handed.0
      (adds out ∙ ap (λ (c : Bool). put_where c (At moment sign) (puts_to routes out passed))
      (ap (goes routes source) (omega arith) ∙ sym (each 0 (omega arith)))),
  handed-pass routes source (out + 1) moment sign gs pss passed after (omega (arith, few))
      (goes-behind routes source out g gs each) adds handed.1,
)

pub handed-flush : (routes : List (ℕ × ℕ)) (out : ℕ) (putss : List (List Put)) (passed : List PassedTag) →
    AreHanded routes out putss passed → AreHanded routes out (flush_puts putss) passed
handed-flush routes out [] passed handed = tt
handed-flush routes out (ps ∷ pss) passed handed =
    (marks_put-flush ps ∙ handed.0, handed-flush routes (out + 1) pss passed handed.1)

-- a mark that passes suits each out that it goes to

suits-here : {S : Type 0} (tells : Bool) (contents : S → Contents) (at : S) (o : Outlet) (ps was : List Put)
    (mark : Mark) (g : Bool) → OutletStands tells contents o at ps → marks_put ps ≡ was →
    (g ≡ true → suits_sign (is_open (signs_in was)) (sign_of mark) ≡ true) → SuitsWhere g mark o
suits-here tells contents at o ps was mark false st same suits = tt
suits-here tells contents at o ps was mark true st same suits =
    ap (λ (c : Bool). suits_sign c (sign_of mark))
    (open-by o.writer.carrier ps st.stands ∙ ap is_open (sym (put-signs ps) ∙ ap signs_in same)) ∙ suits refl

all-suit : {S : Type 0} (tells : Bool) (contents : S → Contents) (at : S) (routes : List (ℕ × ℕ)) (source : ℕ)
    (mark : Mark) (first out : ℕ) (gs : List Bool) (outs : List Outlet) (putss : List (List Put))
    (passed : List PassedTag) → out + length outs ≤ 16 → Goes routes source out gs →
    ((o : ℕ) → o < 16 → goes routes source o ≡ true →
    suits_sign (is_open (signs_in (puts_to routes o passed))) (sign_of mark) ≡ true) →
    OutsStand tells contents first outs at putss → AreHanded routes out putss passed → AllSuit gs mark outs
all-suit tells contents at routes source mark first out gs [] putss passed few each suits st handed = tt
all-suit tells contents at routes source mark first out gs (o ∷ os) [] passed few each suits st handed = absurd st
all-suit tells contents at routes source mark first out [] (o ∷ os) (ps ∷ pss) passed few each suits st handed = tt
all-suit tells contents at routes source mark first out (g ∷ gs) (o ∷ os) (ps ∷ pss) passed few each suits st handed = (
  suits-here tells contents at o ps (puts_to routes out passed) mark g st.1 handed.0
      (λ e. suits out (omega (arith, few))
      (ap (goes routes source) (omega arith) ∙ (sym (each 0 (omega arith)) ∙ e))),
  all-suit tells contents at routes source mark (first + 1) (out + 1) gs os pss passed (omega (arith, few))
      (goes-behind routes source out g gs each) suits st.2 handed.1,
)

-- which links are stalled

stalled-at : (stalled : ℕ → Bool) (xs : List Bool) (x : ℕ) (c : Bool) → x < length xs →
    ((y : ℕ) → stalled y ≡ slice_index_or xs y false) → (y : ℕ) →
    at_link stalled x c y ≡ slice_index_or (slice_set xs x c) y false
stalled-at stalled xs x c below known y = ⊎_elim
    (λ (e : y ≡ x). subst (λ z. at_link stalled x c z ≡ slice_index_or (slice_set xs x c) z false) (sym e)
    (here-same stalled x c ∙ sym (get_or-set_same xs x c false below)))
    (λ (apart : y ≢ x). elsewhere stalled x c y apart ∙ (known y ∙ sym (get_or-set_other xs x y c false apart)))
    (same_or_not y x)

free-freed : (links : Links) (x y : ℕ) → links.stalled y ≡ false → (freed links x).stalled y ≡ false
free-freed links x y free = ⊎_elim
    (λ (e : y ≡ x). ap (freed links x).stalled e ∙ here-same links.stalled x false)
    (λ (apart : y ≢ x). elsewhere links.stalled x false y apart ∙ free)
    (same_or_not y x)

-- where a source's marks go

outs-are : (s : Setup) (x : ℕ) (gs : List Bool) → gs ≡ outs_of x s.routes → (length gs ≡ 16) × Goes s.routes x 0 gs
outs-are s x gs is = (many, each)
  where
    many : length gs ≡ 16
    many = ap length is ∙ length-map-range_with_len (λ out. stands_in (x, out) s.routes) 0 16

    each : Goes s.routes x 0 gs
    each i below = ap (λ (xs : List Bool). get_or xs i false) is
        ∙ get_or-map-range_with_len (λ out. stands_in (x, out) s.routes) 0 16 i i false
        (let m = many in omega (arith, below, m)) (omega arith)
        ∙ ap (goes s.routes x) (omega arith)

-- The run of a bay goes on, a mark or more having passed: what a link's offer left to pass is of link `x`.
pub record BayComes {S : Type 0} (tells : Bool) (contents : S → Contents) (s : Setup) (before : List ℕ) (first : ℕ)
    (old new : Bay) (at : S) (links : Links) (x : ℕ) : Type 0 where
  pub links_now : Links
  pub play : Play
  pub stands : BayStands tells contents s before first new at links_now play
  pub present : (y : ℕ) → links_now.present y ≡ links.present y
  pub given_is : (y : ℕ) → links_now.given y ≡ links.given y
  pub free : (y : ℕ) → links.stalled y ≡ false → links_now.stalled y ≡ false
  pub room : KeepRoom old.router links new.router links_now x
  pub offers : OffersOf new.router x

-- the router told this mark, and a link that is stalled isn't any longer
pub record IsToldBy (was now : Bay) (q : Passed) : Type 0 where
  pub told : (next_of was.router).0 ≡ Some q
  pub router : now.router ≡ (next_of was.router).1
  pub stalled : now.stalled ≡ slice_set was.stalled q.source false
  pub greatest : now.greatest ≡ was.greatest
  pub outs : now.outs.items ≡ was.outs.items

passes-of : (s : Setup) (was : Bay) (links : Links) (play : Play) (q : Passed) (m : Merger) →
    Course s was.router links (turn_key was.greatest) play → (next_of was.router).0 ≡ Some q →
    m ≡ (next_of was.router).1 → Passes s was.router m links (turn_key was.greatest) play q
passes-of s was links play q m course told is =
    subst (λ (n : Merger). Passes s was.router n links (turn_key was.greatest) play q) (sym is)
    (subst (λ (o : Option Passed). PassesOn s was.router links (turn_key was.greatest) play o (next_of was.router).1)
    told (course-next s was.router links (turn_key was.greatest) play course))

source-below : (s : Setup) (was now : Merger) (links : Links) (K : Key) (play : Play) (q : Passed) →
    Passes s was now links K play q → q.source < length now.links → q.source < length s.ins
source-below s was now links K play q passes below =
    let many = reached-sources s now passes.course.reached in omega (arith, below, many)

-- what the passing of a mark asks of the outs
pub pass-suits : {S : Type 0} (tells : Bool) (contents : S → Contents) (s : Setup) (before : List ℕ) (first : ℕ)
    (was now : Bay) (at : S) (links : Links) (play : Play) (q : Passed) (gs : List Bool) →
    BayStands tells contents s before first was at links play → IsToldBy was now q →
    q.source < length now.router.links → gs ≡ (link_of now.router q.source).outs →
    ((f : ℕ) × (putss : List (List Put)) × OutsStand tells contents f now.outs.items at putss)
    × AllSuit gs q.mark now.outs.items
pass-suits tells contents s before first was now at links play q gs st told below is =
    let passes = passes-of s was links play q now.router st.course told.told told.router in
    let known = outs-are s q.source gs
    (is ∙ reached-outs s now.router q.source passes.course.reached below) in
    let outs = subst (λ (os : List Outlet). OutsStand tells contents first os at st.putss) (sym told.outs) st.outs in
    let many = st.many in
    let few = st.few in
    let same = ap length told.outs in (
      (first, st.putss, outs),
      all-suit tells contents at s.routes q.source q.mark first 0 gs now.outs.items st.putss play.passed
          (omega (arith, many, few, same)) known.1
          (λ o low goes. passes-suits s was.router now.router links (turn_key was.greatest) play q o passes low goes)
          outs st.handed,
    )

putss-many : {S : Type 0} (tells : Bool) (contents : S → Contents) (first : ℕ) (outs : List Outlet) (at : S)
    (putss : List (List Put)) → OutsStand tells contents first outs at putss → length putss ≡ length outs
putss-many tells contents first [] at [] st = refl
putss-many tells contents first [] at (ps ∷ pss) st = absurd st
putss-many tells contents first (o ∷ os) at [] st = absurd st
putss-many tells contents first (o ∷ os) at (ps ∷ pss) st =
    let rest = putss-many tells contents (first + 1) os at pss st.2 in omega (arith, rest)

report-grows : {S : Type 0} (tells : Bool) (contents : S → Contents) (read_faults : S → ℕ) (first count moment : ℕ)
    (q : Passed) (at then : S) (front : List ℕ) → 3 ≤ first →
    PassedOn tells contents read_faults first count moment q at then → IsTrue tells →
    (contents at).written 1 ≡ front → (contents then).written 1 ≡ front ++ passing_text moment q
report-grows tells contents read_faults first count moment q at then front low passed t was =
    ap (λ (c : Contents). c.written 1) (passed.line.contents_are t)
    ∙ ap (λ (xs : List ℕ). xs ++ passing_text moment q)
    (passed.outs.others t 1 (λ lower higher. omega (arith, low, lower)) ∙ was)

-- a mark passes
pub bay-passes : {S : Type 0} (tells : Bool) (contents : S → Contents) (read_faults : S → ℕ) (s : Setup)
    (before : List ℕ) (first : ℕ) (start was now new : Bay) (at then : S) (links : Links) (x : ℕ) (q : Passed)
    (gs : List Bool) → BayComes tells contents s before first start was at links x → IsToldBy was now q →
    q.source < length now.router.links → gs ≡ (link_of now.router q.source).outs →
    new.router ≡ now.router → new.stalled ≡ now.stalled → new.greatest ≡ now.greatest →
    map outlet_spec new.outs.items ≡ map outlet_spec now.outs.items →
    ((f : ℕ) (putss : List (List Put)) → 3 ≤ f → OutsStand tells contents f now.outs.items at putss →
    OutsStand tells contents f new.outs.items then
    (pass_puts gs (At (now.greatest.moment / 1000) (sign_of q.mark)) putss)) →
    ((f : ℕ) (putss : List (List Put)) → OutsStand tells contents f now.outs.items at putss →
    PassedOn tells contents read_faults f (length now.outs.items) now.greatest.moment q at then) →
    BayComes tells contents s before first start new then links x
bay-passes tells contents read_faults s before first start was now new at then links x q gs comes told below is
    router stalled greatest specs stand passed = record {
      links_now = freed comes.links_now q.source;
      play = passes.after;
      stands = record {
        course = subst (λ (m : Merger). Course s m (freed comes.links_now q.source) (turn_key new.greatest)
            passes.after) (sym router)
            (subst (λ turn. Course s now.router (freed comes.links_now q.source) (turn_key turn) passes.after)
            (sym (greatest ∙ told.greatest)) passes.course);
        stalled = λ y. stalled-at comes.links_now.stalled was.stalled q.source false
            (let low = low-source in let flags = st.flags in let few = st.few_links in
            omega (arith, low, flags, few)) st.stalled y
            ∙ ap (λ (xs : List Bool). slice_index_or xs y false) (sym (stalled ∙ told.stalled));
        putss = pass_puts gs put st.putss;
        outs = stand first st.putss st.behind outs;
        handed = handed-pass s.routes q.source 0 (now.greatest.moment / 1000) (sign_of q.mark) gs st.putss play.passed
            passes.after.passed (omega (arith, putss_many, known.0, st.many, st.few)) known.1 adds st.handed;
        many = same_many ∙ st.many;
        few = st.few;
        few_links = st.few_links;
        flags = ap length (stalled ∙ told.stalled) ∙ (length-set was.stalled q.source false ∙ st.flags);
        specs = specs ∙ (ap (map outlet_spec) told.outs ∙ st.specs);
        report = λ t. report-grows tells contents read_faults first (length now.outs.items) now.greatest.moment q at
            then _ st.behind (passed first st.putss outs) t (st.report t)
            ∙ (append_assoc before _ _ ∙ ap (λ (xs : List ℕ). before ++ xs) (sym text));
        behind = st.behind;
      };
      present = comes.present;
      given_is = comes.given_is;
      free = λ y free. free-freed comes.links_now q.source y (comes.free y free);
      room = λ y apart room. subst (λ (m : Merger). HasRoom m (freed comes.links_now q.source) y)
          (sym (router ∙ told.router))
          (room-next was.router comes.links_now x q (reached-few s was.router st.course.reached) comes.offers told.told
          y apart (comes.room y apart room));
      offers = subst (λ (m : Merger). OffersOf m x) (sym (router ∙ told.router)) (next-offers was.router x);
    }
  where
    st : BayStands tells contents s before first was at comes.links_now comes.play
    st = comes.stands

    play : Play
    play = comes.play

    passes : Passes s was.router now.router comes.links_now (turn_key was.greatest) play q
    passes = passes-of s was comes.links_now play q now.router st.course told.told told.router

    put : Put
    put = At (now.greatest.moment / 1000) (sign_of q.mark)

    low-source : q.source < length s.ins
    low-source = source-below s was.router now.router comes.links_now (turn_key was.greatest) play q passes below

    known : (length gs ≡ 16) × Goes s.routes q.source 0 gs
    known = outs-are s q.source gs (is ∙ reached-outs s now.router q.source passes.course.reached below)

    outs : OutsStand tells contents first now.outs.items at st.putss
    outs = subst (λ (os : List Outlet). OutsStand tells contents first os at st.putss) (sym told.outs) st.outs

    putss_many : length st.putss ≡ length was.outs.items
    putss_many = putss-many tells contents first was.outs.items at st.putss st.outs

    same_many : length new.outs.items ≡ length was.outs.items
    same_many = sym (length-map new.outs.items outlet_spec)
        ∙ (ap length (specs ∙ ap (map outlet_spec) told.outs) ∙ length-map was.outs.items outlet_spec)

    adds : (o : ℕ) → puts_to s.routes o passes.after.passed
        ≡ put_where (goes s.routes q.source o) put (puts_to s.routes o play.passed)
    adds o = passes-put s was.router now.router comes.links_now (turn_key was.greatest) play q o passes
        ∙ ap (λ (moment : ℕ). put_where (goes s.routes q.source o) (At (moment / 1000) (sign_of q.mark))
        (puts_to s.routes o play.passed)) (sym (ap (λ turn. turn.moment) told.greatest))

    text : text_of (report_of passes.after.passed)
        ≡ text_of (report_of play.passed) ++ passing_text now.greatest.moment q
    text = passes-told s was.router now.router comes.links_now (turn_key was.greatest) play q passes
        ∙ ap (λ (moment : ℕ). text_of (report_of play.passed) ++ passing_text moment q)
        (sym (ap (λ turn. turn.moment) told.greatest))

-- nothing has passed yet
pub bay-starts : {S : Type 0} (tells : Bool) (contents : S → Contents) (s : Setup) (before : List ℕ) (first : ℕ)
    (b : Bay) (at : S) (links : Links) (play : Play) (x : ℕ) → BayStands tells contents s before first b at links play →
    OffersOf b.router x → BayComes tells contents s before first b b at links x
bay-starts tells contents s before first b at links play x st offers = record {
  links_now = links;
  play = play;
  stands = st;
  present = λ y. refl;
  given_is = λ y. refl;
  free = λ y free. free;
  room = λ y apart room. room;
  offers = offers;
}

-- a bay of which the router alone changed
router-only : {S : Type 0} (tells : Bool) (contents : S → Contents) (s : Setup) (before : List ℕ) (first : ℕ)
    (was now : Bay) (at : S) (links : Links) (play : Play) → BayStands tells contents s before first was at links play →
    Course s now.router links (turn_key now.greatest) play → now.stalled ≡ was.stalled → now.outs ≡ was.outs →
    BayStands tells contents s before first now at links play
router-only tells contents s before first was now at links play st course stalled outs = record {
  course = course;
  stalled = λ y. st.stalled y ∙ ap (λ (xs : List Bool). slice_index_or xs y false) (sym stalled);
  putss = st.putss;
  outs = subst (λ os. OutsStand tells contents first os at st.putss) (ap (λ os. os.items) (sym outs)) st.outs;
  handed = st.handed;
  many = ap (λ os. length os.items) outs ∙ st.many;
  few = st.few;
  few_links = st.few_links;
  flags = ap length stalled ∙ st.flags;
  specs = ap (λ os. map outlet_spec os.items) outs ∙ st.specs;
  report = st.report;
  behind = st.behind;
}

-- no mark may pass
pub bay-drained : {S : Type 0} (tells : Bool) (contents : S → Contents) (s : Setup) (before : List ℕ) (first : ℕ)
    (start was now : Bay) (at : S) (links : Links) (x : ℕ) → BayComes tells contents s before first start was at links x →
    (next_of was.router).0 ≡ None → now.router ≡ (next_of was.router).1 → now.stalled ≡ was.stalled →
    now.greatest ≡ was.greatest → now.outs ≡ was.outs →
    BayGoes tells contents s before first start now at links x links.given
bay-drained tells contents s before first start was now at links x comes none router stalled greatest outs = record {
  links_now = comes.links_now;
  play = comes.play;
  stands = router-only tells contents s before first was now at comes.links_now comes.play comes.stands
      (subst (λ (m : Merger). Course s m comes.links_now (turn_key now.greatest) comes.play) (sym router)
      (subst (λ turn. Course s (next_of was.router).1 comes.links_now (turn_key turn) comes.play) (sym greatest)
      quiet.0)) stalled outs;
  drained = ap (λ (m : Merger). m.draining) (router ∙ next-none was.router none);
  present = comes.present;
  given_is = comes.given_is;
  free = comes.free;
  room = λ y apart room. subst (λ (m : Merger). HasRoom m comes.links_now y)
      (sym (router ∙ next-none was.router none)) (comes.room y apart room);
}
  where
    quiet : PassesOn s was.router comes.links_now (turn_key was.greatest) comes.play None (next_of was.router).1
    quiet = subst (λ (o : Option Passed). PassesOn s was.router comes.links_now (turn_key was.greatest) comes.play o
        (next_of was.router).1) none
        (course-next s was.router comes.links_now (turn_key was.greatest) comes.play comes.stands.course)

-- a mark is taken
pub bay-takes : {S : Type 0} (tells : Bool) (contents : S → Contents) (s : Setup) (before : List ℕ) (first : ℕ)
    (was now : Bay) (at : S) (links : Links) (play : Play) (x moment : ℕ) (mark : Mark) →
    BayStands tells contents s before first was at links play → MayHand s was links x moment mark →
    has_room was.router x mark ≡ true → now.router ≡ offered_in was.router x moment mark →
    now.stalled ≡ was.stalled → now.greatest ≡ was.greatest → now.outs ≡ was.outs →
    BayStands tells contents s before first now at (gives links x moment (sign_of mark))
    (takes play (passes_now was.router x mark) (next_tag links x moment (sign_of mark)))
bay-takes tells contents s before first was now at links play x moment mark st may room router stalled greatest outs =
    record {
      course = subst (λ (m : Merger). Course s m now_links (turn_key now.greatest) now_play) (sym router)
          (subst (λ turn. Course s (offered_in was.router x moment mark) now_links (turn_key turn) now_play)
          (sym greatest)
          (course-takes s was.router links (turn_key was.greatest) play x moment mark st.course (record {
            source = may.source;
            free = may.free;
            here = may.here;
            within = may.within;
            suits = may.suits;
            drained = may.drained;
            room = room;
          })));
      stalled = λ y. st.stalled y ∙ ap (λ (xs : List Bool). slice_index_or xs y false) (sym stalled);
      putss = st.putss;
      outs = subst (λ os. OutsStand tells contents first os at st.putss) (ap (λ os. os.items) (sym outs)) st.outs;
      handed = st.handed;
      many = ap (λ os. length os.items) outs ∙ st.many;
      few = st.few;
      few_links = st.few_links;
      flags = ap length stalled ∙ st.flags;
      specs = ap (λ os. map outlet_spec os.items) outs ∙ st.specs;
      report = st.report;
      behind = st.behind;
    }
  where
    now_links : Links
    now_links = gives links x moment (sign_of mark)

    now_play : Play
    now_play = takes play (passes_now was.router x mark) (next_tag links x moment (sign_of mark))

-- and all that may pass has passed
pub bay-taken : {S : Type 0} (tells : Bool) (contents : S → Contents) (s : Setup) (before : List ℕ) (first : ℕ)
    (was mid now : Bay) (at : S) (links : Links) (x moment : ℕ) (mark : Mark) →
    mid.router ≡ offered_in was.router x moment mark →
    BayGoes tells contents s before first mid now at (gives links x moment (sign_of mark)) x
    (gives links x moment (sign_of mark)).given →
    BayGoes tells contents s before first was now at links x (gives links x moment (sign_of mark)).given
bay-taken tells contents s before first was mid now at links x moment mark router goes = record {
  links_now = goes.links_now;
  play = goes.play;
  stands = goes.stands;
  drained = goes.drained;
  present = goes.present;
  given_is = goes.given_is;
  free = goes.free;
  room = λ y apart room. goes.room y apart (subst (λ (m : Merger). HasRoom m (gives links x moment (sign_of mark)) y)
      (sym router) (room-offer was.router links x moment mark y apart room));
}

-- the link's ring is full
pub bay-stalls : {S : Type 0} (tells : Bool) (contents : S → Contents) (s : Setup) (before : List ℕ) (first : ℕ)
    (was now : Bay) (at : S) (links : Links) (play : Play) (x moment : ℕ) (mark : Mark) →
    BayStands tells contents s before first was at links play → MayHand s was links x moment mark →
    length (link_of was.router x).held ≡ 1024 → now.router ≡ was.router →
    now.stalled ≡ slice_set was.stalled x true → now.greatest ≡ was.greatest → now.outs ≡ was.outs →
    BayStands tells contents s before first now at (stalls links x) play × (now.router ≡ was.router)
    × (HasRoom was.router links x → ⊥)
bay-stalls tells contents s before first was now at links play x moment mark st may full router stalled greatest outs = (
  record {
    course = subst (λ (m : Merger). Course s m (stalls links x) (turn_key now.greatest) play) (sym router)
        (subst (λ turn. Course s was.router (stalls links x) (turn_key turn) play) (sym greatest)
        (course-stalls s was.router links (turn_key was.greatest) play x (key_at moment x) st.course may.drained
        may.free may.here (omega (arith, full))));
    stalled = λ y. stalled-at links.stalled was.stalled x true
        (let low = may.source in let flags = st.flags in let few = st.few_links in omega (arith, low, flags, few))
        st.stalled y ∙ ap (λ (xs : List Bool). slice_index_or xs y false) (sym stalled);
    putss = st.putss;
    outs = subst (λ os. OutsStand tells contents first os at st.putss) (ap (λ os. os.items) (sym outs)) st.outs;
    handed = st.handed;
    many = ap (λ os. length os.items) outs ∙ st.many;
    few = st.few;
    few_links = st.few_links;
    flags = ap length stalled ∙ (length-set was.stalled x true ∙ st.flags);
    specs = ap (λ os. map outlet_spec os.items) outs ∙ st.specs;
    report = st.report;
    behind = st.behind;
  },
  router,
  λ room. let below = room may.free in omega (arith, below, full),
)

-- the packets under way were ended
pub bay-flushes : {S : Type 0} (tells : Bool) (contents : S → Contents) (read_faults : S → ℕ) (s : Setup)
    (before : List ℕ) (first : ℕ) (was now : Bay) (at then : S) (links : Links) (play : Play) →
    BayStands tells contents s before first was at links play → now.router ≡ was.router →
    now.stalled ≡ was.stalled → now.greatest ≡ was.greatest →
    map outlet_spec now.outs.items ≡ map outlet_spec was.outs.items →
    ((f : ℕ) (putss : List (List Put)) → OutsStand tells contents f was.outs.items at putss →
    OutsStand tells contents f now.outs.items then (flush_puts putss)) →
    ((f : ℕ) (putss : List (List Put)) → OutsStand tells contents f was.outs.items at putss →
    WroteAmong tells contents read_faults f (length was.outs.items) at then) →
    BayStands tells contents s before first now then links play
bay-flushes tells contents read_faults s before first was now at then links play st router stalled greatest specs stand
    among = record {
      course = subst (λ (m : Merger). Course s m links (turn_key now.greatest) play) (sym router)
          (subst (λ turn. Course s was.router links (turn_key turn) play) (sym greatest) st.course);
      stalled = λ y. st.stalled y ∙ ap (λ (xs : List Bool). slice_index_or xs y false) (sym stalled);
      putss = flush_puts st.putss;
      outs = stand first st.putss st.outs;
      handed = handed-flush s.routes 0 st.putss play.passed st.handed;
      many = sym (length-map now.outs.items outlet_spec)
          ∙ (ap length specs ∙ (length-map was.outs.items outlet_spec ∙ st.many));
      few = st.few;
      few_links = st.few_links;
      flags = ap length stalled ∙ st.flags;
      specs = specs ∙ st.specs;
      report = λ t. (among first st.putss st.outs).others t 1
          (λ lower higher. let low = st.behind in omega (arith, low, lower)) ∙ st.report t;
      behind = st.behind;
    }

-- the end

nil-cons : {A : Type 0} {a : A} {xs : List A} → [] ≡ a ∷ xs → ⊥
nil-cons e = cc

ended-at : {S : Type 0} (tells : Bool) (contents : S → Contents) (s : Setup) (first out : ℕ) (outs : List Outlet)
    (at : S) (putss : List (List Put)) (ports : List RigPort) (play : Play) →
    OutsEnded tells contents (first + out) outs at putss → map outlet_spec outs ≡ specs_of ports →
    AreHanded s.routes out putss play.passed → (i : ℕ) (port : RigPort) → slice_get ports i ≡ Some port →
    OutHas tells contents s first (out + i) port at play
ended-at tells contents s first out [] at [] [] play ended specs handed i port is = absurd (none≢some port is)
ended-at tells contents s first out [] at (ps ∷ pss) ports play ended specs handed i port is = absurd ended
ended-at tells contents s first out (o ∷ os) at [] ports play ended specs handed i port is = absurd ended
ended-at tells contents s first out [] at [] (p ∷ ports) play ended specs handed i port is =
    absurd (nil-cons specs)
ended-at tells contents s first out (o ∷ os) at (ps ∷ pss) [] play ended specs handed i port is =
    absurd (none≢some port is)
ended-at tells contents s first out (o ∷ os) at (ps ∷ pss) (p ∷ ports) play ended specs handed zero port is = record {
  puts = ps;
  are = handed.0 ∙ ap (λ n. puts_to s.routes n play.passed) (omega arith);
  has = λ t. ap (contents at).written (omega arith) ∙ (ended.0 t ∙ ap (λ spec. written spec ps)
      (head-same specs ∙ ap (λ (q : RigPort). q.spec) (some_same is)));
}
  where
    head-same : {A : Type 0} {a b : A} {xs ys : List A} → a ∷ xs ≡ b ∷ ys → a ≡ b
    head-same e = cc
ended-at tells contents s first out (o ∷ os) at (ps ∷ pss) (p ∷ ports) play ended specs handed (suc i) port is =
    subst (λ n. OutHas tells contents s first n port at play) (omega arith)
    (ended-at tells contents s first (out + 1) os at pss ports play
    (subst (λ n. OutsEnded tells contents n os at pss) (omega arith) ended.1) (tail-same specs) handed.1 i port is)
  where
    tail-same : {A : Type 0} {a b : A} {xs ys : List A} → a ∷ xs ≡ b ∷ ys → xs ≡ ys
    tail-same e = cc

pub bay-ends : {S : Type 0} (tells : Bool) (contents : S → Contents) (read_faults : S → ℕ) (s : Setup)
    (before : List ℕ) (first : ℕ) (b : Bay) (at then : S) (links : Links) (play : Play) →
    BayStands tells contents s before first b at links play →
    ((f : ℕ) (putss : List (List Put)) → OutsStand tells contents f b.outs.items at putss →
    OutsEnded tells contents f b.outs.items then putss) →
    ((f : ℕ) (putss : List (List Put)) → OutsStand tells contents f b.outs.items at putss →
    WroteAmong tells contents read_faults f (length b.outs.items) at then) →
    BayEnds tells contents s before first then play
bay-ends tells contents read_faults s before first b at then links play st ended among = record {
  outs = λ out port is. subst (λ n. OutHas tells contents s first n port then play) (omega arith)
      (ended-at tells contents s first 0 b.outs.items then st.putss s.outs play
      (subst (λ n. OutsEnded tells contents n b.outs.items then st.putss) (omega arith) (ended first st.putss st.outs))
      st.specs st.handed out port is);
  report = λ t. (among first st.putss st.outs).others t 1
      (λ lower higher. let low = st.behind in omega (arith, low, lower)) ∙ st.report t;
}

-- the outs behind a call on their slice

pub outs-items : (os : ArrayVec Outlet) (xs : List Outlet) → map outlet_spec xs ≡ map outlet_spec os.items →
    (with_items os xs).items ≡ xs
outs-items os xs same = items-with_items os xs (sym (length-map xs outlet_spec)
    ∙ (ap length same ∙ length-map os.items outlet_spec))

-- what a call on the slice of outs says, said of the outs

on-slice : {S : Type 0} (tells : Bool) (contents : S → Contents) (f : ℕ) (os items : List Outlet) (at : S)
    (putss : List (List Put)) → os ≡ items → OutsStand tells contents f items at putss →
    OutsStand tells contents f os at putss
on-slice tells contents f os items at putss value st =
    subst (λ (xs : List Outlet). OutsStand tells contents f xs at putss) (sym value) st

pub among-slice : {S : Type 0} (tells : Bool) (contents : S → Contents) (read_faults : S → ℕ) (os items : List Outlet)
    (at then : S) → os ≡ items →
    ((f : ℕ) (putss : List (List Put)) → OutsStand tells contents f os at putss →
    WroteAmong tells contents read_faults f (length os) at then) →
    (f : ℕ) (putss : List (List Put)) → OutsStand tells contents f items at putss →
    WroteAmong tells contents read_faults f (length items) at then
among-slice tells contents read_faults os items at then value among f putss st =
    subst (λ n. WroteAmong tells contents read_faults f n at then) (ap length value)
    (among f putss (on-slice tells contents f os items at putss value st))

pub ended-slice : {S : Type 0} (tells : Bool) (contents : S → Contents) (os items : List Outlet) (at then : S) →
    os ≡ items →
    ((f : ℕ) (putss : List (List Put)) → OutsStand tells contents f os at putss →
    OutsEnded tells contents f os then putss) →
    (f : ℕ) (putss : List (List Put)) → OutsStand tells contents f items at putss →
    OutsEnded tells contents f items then putss
ended-slice tells contents os items at then value ended f putss st =
    subst (λ (xs : List Outlet). OutsEnded tells contents f xs then putss) value
    (ended f putss (on-slice tells contents f os items at putss value st))

pub flushed-slice : {S : Type 0} (tells : Bool) (contents : S → Contents) (os items news now : List Outlet)
    (at then : S) → os ≡ items → now ≡ news →
    ((f : ℕ) (putss : List (List Put)) → OutsStand tells contents f os at putss →
    OutsStand tells contents f news then (flush_puts putss)) →
    (f : ℕ) (putss : List (List Put)) → OutsStand tells contents f items at putss →
    OutsStand tells contents f now then (flush_puts putss)
flushed-slice tells contents os items news now at then value same flushed f putss st =
    on-slice tells contents f now news then (flush_puts putss) same
    (flushed f putss (on-slice tells contents f os items at putss value st))

pub slice-suits : {S : Type 0} (tells : Bool) (contents : S → Contents) (s : Setup) (before : List ℕ) (first : ℕ)
    (was now : Bay) (at : S) (links : Links) (play : Play) (q : Passed) (gs : List Bool) (os : List Outlet) →
    BayStands tells contents s before first was at links play → IsToldBy was now q →
    q.source < length now.router.links → gs ≡ (link_of now.router q.source).outs → os ≡ now.outs.items →
    ((f : ℕ) × (putss : List (List Put)) × OutsStand tells contents f os at putss) × AllSuit gs q.mark os
slice-suits tells contents s before first was now at links play q gs os st told below is value =
    let r = pass-suits tells contents s before first was now at links play q gs st told below is in (
      (r.0.0, r.0.1, on-slice tells contents r.0.0 os now.outs.items at r.0.1 value r.0.2),
      subst (λ (xs : List Outlet). AllSuit gs q.mark xs) (sym value) r.1,
    )

pub slice-passes : {S : Type 0} (tells : Bool) (contents : S → Contents) (read_faults : S → ℕ) (s : Setup)
    (before : List ℕ) (first : ℕ) (start was now new : Bay) (at then : S) (links : Links) (x : ℕ) (q : Passed)
    (gs : List Bool) (os news : List Outlet) → BayComes tells contents s before first start was at links x →
    IsToldBy was now q → q.source < length now.router.links → gs ≡ (link_of now.router q.source).outs →
    new.router ≡ now.router → new.stalled ≡ now.stalled → new.greatest ≡ now.greatest →
    os ≡ now.outs.items → new.outs ≡ with_items now.outs news → map outlet_spec news ≡ map outlet_spec os →
    ((f : ℕ) (putss : List (List Put)) → 3 ≤ f → OutsStand tells contents f os at putss →
    OutsStand tells contents f news then
    (pass_puts gs (At (now.greatest.moment / 1000) (sign_of q.mark)) putss)) →
    ((f : ℕ) (putss : List (List Put)) → OutsStand tells contents f os at putss →
    PassedOn tells contents read_faults f (length os) now.greatest.moment q at then) →
    BayComes tells contents s before first start new then links x
slice-passes tells contents read_faults s before first start was now new at then links x q gs os news comes told below
    is router stalled greatest value put specs stand passed =
    bay-passes tells contents read_faults s before first start was now new at then links x q gs comes told below is
    router stalled greatest (ap (map outlet_spec) items ∙ specs_are)
    (λ f putss low st. on-slice tells contents f new.outs.items news then
    (pass_puts gs (At (now.greatest.moment / 1000) (sign_of q.mark)) putss) items
    (stand f putss low (on-slice tells contents f os now.outs.items at putss value st)))
    (λ f putss st. subst (λ n. PassedOn tells contents read_faults f n now.greatest.moment q at then)
    (ap length value) (passed f putss (on-slice tells contents f os now.outs.items at putss value st)))
  where
    specs_are : map outlet_spec news ≡ map outlet_spec now.outs.items
    specs_are = specs ∙ ap (map outlet_spec) value

    items : new.outs.items ≡ news
    items = ap (λ (v : ArrayVec Outlet). v.items) put ∙ outs-items now.outs news specs_are

-- the bay behind the router's answer
pub told-by : (was : Bay) (q : Passed) (m : Merger) (at : ℕ) → (next_of was.router).0 ≡ Some q →
    m ≡ (next_of was.router).1 → at ≡ q.source →
    IsToldBy was (record {
      router = m;
      outs = was.outs;
      stalled = slice_set was.stalled at false;
      greatest = was.greatest;
    }) q
told-by was q m at told state same = record {
  told = told;
  router = state;
  stalled = ap (λ n. slice_set was.stalled n false) same;
  greatest = refl;
  outs = refl;
}

pub items-many : (os : ArrayVec Outlet) (xs slice : List Outlet) → map outlet_spec xs ≡ map outlet_spec slice →
    slice ≡ os.items → length (with_items os xs).items ≡ length os.items
items-many os xs slice specs value =
    let same = specs ∙ ap (map outlet_spec) value in
    ap length (outs-items os xs same)
    ∙ (sym (length-map xs outlet_spec) ∙ (ap length same ∙ length-map os.items outlet_spec))

pub comes-wrote : {S : Type 0} (tells : Bool) (contents : S → Contents) (s : Setup) (before : List ℕ) (first : ℕ)
    (start was : Bay) (at then : S) (links : Links) (x : ℕ) (os : List Outlet) →
    BayComes tells contents s before first start was at links x → os ≡ was.outs.items →
    length was.outs.items ≡ length start.outs.items →
    ((f : ℕ) (putss : List (List Put)) → 3 ≤ f → OutsStand tells contents f os at putss →
    BayWrote tells contents f (length os) at then) →
    BayWrote tells contents first (length start.outs.items) at then
comes-wrote tells contents s before first start was at then links x os comes value many wrote =
    subst (λ n. BayWrote tells contents first n at then) (ap length value ∙ many)
    (wrote first comes.stands.putss comes.stands.behind
    (on-slice tells contents first os was.outs.items at comes.stands.putss value comes.stands.outs))

-- the source of a mark that was told has a flag
pub told-low : {S : Type 0} (tells : Bool) (contents : S → Contents) (s : Setup) (before : List ℕ) (first : ℕ)
    (was now : Bay) (at : S) (links : Links) (play : Play) (q : Passed) →
    BayStands tells contents s before first was at links play → IsToldBy was now q →
    q.source < length now.router.links → q.source < 16
told-low tells contents s before first was now at links play q st told below =
    let passes = passes-of s was links play q now.router st.course told.told told.router in
    let low = source-below s was.router now.router links (turn_key was.greatest) play q passes below in
    let few = st.few_links in omega (arith, low, few)

pub source-within : (s : Setup) (b : Bay) (links : Links) (play : Play) (x : ℕ) →
    Course s b.router links (turn_key b.greatest) play → x < length s.ins → x < length b.router.links
source-within s b links play x course below =
    let many = reached-sources s b.router course.reached in omega (arith, below, many)

-- what an offer that was taken says of the room
pub room-ok : {T E : Type 0} (r : Result T E) (a : T) (room : Bool) → r ≡ Ok a → (IsErr r ↔ (room ≡ false)) →
    room ≡ true
room-ok r a true is iff = refl
room-ok r a false is iff = absurd (false≢true (subst IsErr is (iff.1 refl)))

-- a write fails as a mark passes

grown-part : (before told front line : List ℕ) (was now text : List ℕ) → was ≡ before ++ told → now ≡ was ++ front →
    IsFront front line → text ≡ told ++ line →
    (part : List ℕ) × IsFront part text × (now ≡ before ++ part)
grown-part before told front line was now text is grows part all = (
  told ++ front,
  (part.0, all ∙ (ap (λ (xs : List ℕ). told ++ xs) part.1 ∙ sym (append_assoc told front part.0))),
  grows ∙ (ap (λ (xs : List ℕ). xs ++ front) is ∙ append_assoc before told front),
)

pub bay-breaks : {S : Type 0} (tells : Bool) (contents : S → Contents) (s : Setup) (before : List ℕ) (first : ℕ)
    (start was now : Bay) (at then : S) (links : Links) (x : ℕ) (q : Passed) (os : List Outlet) →
    BayComes tells contents s before first start was at links x → IsToldBy was now q → os ≡ now.outs.items →
    ((f : ℕ) (putss : List (List Put)) → 3 ≤ f → OutsStand tells contents f os at putss → IsTrue tells →
    (front : List ℕ) × IsFront front (passing_text now.greatest.moment q)
    × ((contents then).written 1 ≡ (contents at).written 1 ++ front)) →
    BayBroke tells contents s before then links.given
bay-breaks tells contents s before first start was now at then links x q os comes told value wrote = record {
  router = now.router;
  greatest = turn_key was.greatest;
  links = freed comes.links_now q.source;
  play = passes.after;
  course = passes.course;
  idle = no-offer now.router.offered passes.after.offered passes.course.order.plays.offered
      (ap (λ (m : Merger). m.offered) told.router ∙ next-idle was.router);
  given_is = comes.given_is;
  part = λ t.
      let w = wrote first st.putss st.behind (on-slice tells contents first os now.outs.items at st.putss value
      (subst (λ (xs : List Outlet). OutsStand tells contents first xs at st.putss) (sym told.outs) st.outs)) t in
      grown-part before (text_of (report_of comes.play.passed)) w.0 (passing_text now.greatest.moment q)
      ((contents at).written 1) ((contents then).written 1) (text_of (report_of passes.after.passed)) (st.report t) w.2
      w.1 (passes-told s was.router now.router comes.links_now (turn_key was.greatest) comes.play q passes
      ∙ ap (λ (moment : ℕ). text_of (report_of comes.play.passed) ++ passing_text moment q)
      (sym (ap (λ turn. turn.moment) told.greatest)));
}
  where
    st : BayStands tells contents s before first was at comes.links_now comes.play
    st = comes.stands

    passes : Passes s was.router now.router comes.links_now (turn_key was.greatest) comes.play q
    passes = passes-of s was comes.links_now comes.play q now.router st.course told.told told.router

-- between two marks that pass
pub bay-broken : {S : Type 0} (tells : Bool) (contents : S → Contents) (s : Setup) (before : List ℕ) (first : ℕ)
    (b : Bay) (at then : S) (links : Links) (play : Play) → BayStands tells contents s before first b at links play →
    b.router.draining ≡ false → (IsTrue tells → (contents then).written 1 ≡ (contents at).written 1) →
    BayBroke tells contents s before then links.given
bay-broken tells contents s before first b at then links play st drained same = record {
  router = b.router;
  greatest = turn_key b.greatest;
  links = links;
  play = play;
  course = st.course;
  idle = no-offer b.router.offered play.offered st.course.order.plays.offered
      ((reached-fits s b.router st.course.reached).quiet drained).0;
  given_is = λ y. refl;
  part = λ t. (
    text_of (report_of play.passed),
    ([], sym (append-nil (text_of (report_of play.passed)))),
    same t ∙ st.report t,
  );
}

pub report-kept : {S : Type 0} (tells : Bool) (contents : S → Contents) (read_faults : S → ℕ) (s : Setup)
    (before : List ℕ) (first : ℕ) (b : Bay) (at then : S) (links : Links) (play : Play) →
    ((f : ℕ) (putss : List (List Put)) → OutsStand tells contents f b.outs.items at putss →
    WroteAmong tells contents read_faults f (length b.outs.items) at then) →
    BayStands tells contents s before first b at links play → IsTrue tells →
    (contents then).written 1 ≡ (contents at).written 1
report-kept tells contents read_faults s before first b at then links play among st t =
    (among first st.putss st.outs).others t 1
    (λ lower higher. let low = st.behind in omega (arith, low, lower))

-- what the outs have between two marks that pass

pub record OutLive {S : Type 0} (tells : Bool) (contents : S → Contents) (s : Setup) (first out : ℕ) (port : RigPort)
    (at : S) (play : Play) : Type 0 where
  pub puts : List Put
  pub are : marks_put puts ≡ puts_to s.routes out play.passed
  pub has : IsTrue tells → (contents at).written (first + out) ≡ live port.spec puts

pub live-at : {S : Type 0} (tells : Bool) (contents : S → Contents) (s : Setup) (first out : ℕ) (outs : List Outlet)
    (at : S) (putss : List (List Put)) (ports : List RigPort) (play : Play) →
    OutsStand tells contents (first + out) outs at putss → map outlet_spec outs ≡ specs_of ports →
    AreHanded s.routes out putss play.passed → (i : ℕ) (port : RigPort) → slice_get ports i ≡ Some port →
    OutLive tells contents s first (out + i) port at play
live-at tells contents s first out [] at [] [] play st specs handed i port is = absurd (none≢some port is)
live-at tells contents s first out [] at (ps ∷ pss) ports play st specs handed i port is = absurd st
live-at tells contents s first out (o ∷ os) at [] ports play st specs handed i port is = absurd st
live-at tells contents s first out [] at [] (p ∷ ports) play st specs handed i port is = absurd (nil-cons specs)
live-at tells contents s first out (o ∷ os) at (ps ∷ pss) [] play st specs handed i port is = absurd (none≢some port is)
live-at tells contents s first out (o ∷ os) at (ps ∷ pss) (p ∷ ports) play st specs handed zero port is = record {
  puts = ps;
  are = handed.0 ∙ ap (λ n. puts_to s.routes n play.passed) (omega arith);
  has = λ t. ap (contents at).written (omega (arith, st.0 t)) ∙ (st.1.has t ∙ ap (λ spec. live spec ps)
      (head-same specs ∙ ap (λ (q : RigPort). q.spec) (some_same is)));
}
  where
    head-same : {A : Type 0} {a b : A} {xs ys : List A} → a ∷ xs ≡ b ∷ ys → a ≡ b
    head-same e = cc
live-at tells contents s first out (o ∷ os) at (ps ∷ pss) (p ∷ ports) play st specs handed (suc i) port is =
    subst (λ n. OutLive tells contents s first n port at play) (omega arith)
    (live-at tells contents s first (out + 1) os at pss ports play
    (subst (λ n. OutsStand tells contents n os at pss) (omega arith) st.2) (tail-same specs) handed.1 i port is)
  where
    tail-same : {A : Type 0} {a b : A} {xs ys : List A} → a ∷ xs ≡ b ∷ ys → xs ≡ ys
    tail-same e = cc

pub bay-live : {S : Type 0} (tells : Bool) (contents : S → Contents) (s : Setup) (before : List ℕ) (first : ℕ)
    (b : Bay) (at : S) (links : Links) (play : Play) → BayStands tells contents s before first b at links play →
    (out : ℕ) (port : RigPort) → slice_get s.outs out ≡ Some port → OutLive tells contents s first out port at play
bay-live tells contents s before first b at links play st out port is =
    subst (λ n. OutLive tells contents s first n port at play) (omega arith)
    (live-at tells contents s first 0 b.outs.items at st.putss s.outs play
    (subst (λ n. OutsStand tells contents n b.outs.items at st.putss) (omega arith) st.outs) st.specs st.handed out port
    is)
