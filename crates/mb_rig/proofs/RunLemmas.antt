-- A run of a rig, step by step.
use Rattle.std.proofs.Common.{◌≡◌, ◌≢◌, ◌⊎◌, inl, inr, ⊎_elim, ℕ, zero, suc, ◌+◌, ◌<◌, ◌≤◌, Bool, true, false, List, [], ◌∷◌}
use Rattle.std.proofs.Common.{length, Option, Some, None, IsTrue, refl, ap, sym, subst, ◌∙◌, arith}
use Rattle.std.specs.Prelude.{◌||◌, ◌&&◌, ◌==◌, nat_lt, slice_get, slice_set, slice_index_or}
use Rattle.std.proofs.lemmas.Bool.Decides.{nat_tests}
use Rattle.std.proofs.lemmas.List.{length-set}
use Rattle.std.proofs.lemmas.Option.{slice_get_within}
use Rattle.mb_message.specs.Front.{IsFront}
use Rattle.mb_stream.specs.Puts.{Put}
use Rattle.mb_outside.specs.Contents.{Contents, is_readable}
use Rattle.mb_merge.specs.Links.{Merger}
use Rattle.mb_rig.specs.RigText.{RigPort, Setup}
use Rattle.mb_rig.specs.Bay.{BayStands, HasRoom, is_stalled, turn_key}
use Rattle.mb_rig.specs.Feed.{FeedFront, FeedStands, IsFeed, IsSameLink, feed_owed, key_by}
use Rattle.mb_rig.specs.Link.{LinkStands}
use Rattle.mb_rig.specs.Causes.{EndCause, StopCause}
use Rattle.mb_rig.specs.Step.{ByStop, OthersKeep, StepBroke, StepEnds, StepMay, StepStops, StopsBy}
use Rattle.mb_rig.specs.Turn.{IsTurn, MayStep}
use Rattle.mb_rig.specs.Running.{AreFeeds, ByEnd, HaltsBy, RunBroken, RunOver, RunStands, RunStopped, RunTouched}
use Rattle.mb_rig.specs.Running.{feeds_owed, turn_at}
use Rattle.mb_rig.specs.Ending.{end_by}
use Rattle.mb_rig.specs.declared.ending.RigEnd.{RigEnd}
use Rattle.mb_rig.specs.declared.feed.RunStop.{RunStop}
use Rattle.mb_rig.specs.declared.feed.RunStop.TheVariants as stop
use Rattle.mb_rig.specs.declared.link.LinkStop.TheVariants as why
use Rattle.mb_frames.specs.Tapes.{tape_fault}
use Rattle.mb_rig.specs.declared.bay.Bay.{Bay}
use Rattle.mb_rig.specs.declared.feed.Feed.{Feed}
use Rattle.mb_rig.specs.Merging.Lines.{Key, is_below, key_at}
use Rattle.mb_rig.specs.Merging.Course.{Course, IsLeastKey, Links}
use Rattle.mb_rig.specs.Merging.Playing.{Play}
use Rattle.mb_rig.proofs.StepLemmas.{touched-then, touched-within}
use Rattle.mb_rig.proofs.FeedLemmas.{feed-kept, feed-stopped, link-kept}
use Rattle.mb_rig.proofs.Merging.CourseKnows.{course-progress}
use Rattle.mb_rig.proofs.Merging.CourseMarks.{no-offer}
use Rattle.mb_rig.proofs.Merging.Lateness.{none≢some, same_or_not, some_same}
use Rattle.mb_rig.proofs.Merging.Reached.{reached-fits}

-- one of a list changed

pub get-set_same : {A : Type 0} (xs : List A) (i : ℕ) (a b : A) → slice_get xs i ≡ Some b →
    slice_get (slice_set xs i a) i ≡ Some a
get-set_same [] i a b is = absurd (none≢some b is)
get-set_same (x ∷ xs) zero a b is = refl
get-set_same (x ∷ xs) (suc i) a b is = get-set_same xs i a b is

get-set_other : {A : Type 0} (xs : List A) (i j : ℕ) (a : A) → j ≢ i →
    slice_get (slice_set xs i a) j ≡ slice_get xs j
get-set_other [] i j a apart = refl
get-set_other (x ∷ xs) zero zero a apart = absurd (apart refl)
get-set_other (x ∷ xs) zero (suc j) a apart = refl
get-set_other (x ∷ xs) (suc i) zero a apart = refl
get-set_other (x ∷ xs) (suc i) (suc j) a apart = get-set_other xs i j a (λ e. apart (ap suc e))

pub at-set : {A : Type 0} (P : ℕ → A → Type 0) (xs : List A) (x : ℕ) (a old : A) → slice_get xs x ≡ Some old → P x a →
    ((y : ℕ) (b : A) → y ≢ x → slice_get xs y ≡ Some b → P y b) → (y : ℕ) (b : A) →
    slice_get (slice_set xs x a) y ≡ Some b → P y b
at-set P xs x a old is here there y b at = ⊎_elim
    (λ (e : y ≡ x). subst (λ z. P z b) (sym e) (subst (P x)
    (some_same (sym (get-set_same xs x a old is) ∙ (ap (slice_get (slice_set xs x a)) (sym e) ∙ at))) here))
    (λ (apart : y ≢ x). there y b apart (sym (get-set_other xs x y a apart) ∙ at))
    (same_or_not y x)

pub owed-falls : (feeds : List Feed) (x : ℕ) (f g : Feed) → slice_get feeds x ≡ Some f → feed_owed g < feed_owed f →
    feeds_owed (slice_set feeds x g) < feeds_owed feeds
owed-falls [] x f g is less = absurd (none≢some f is)
owed-falls (h ∷ hs) zero f g is less =
    let same = ap feed_owed (some_same is) in omega (arith, less, same)
owed-falls (h ∷ hs) (suc x) f g is less =
    let rest = owed-falls hs x f g is less in omega (arith, rest)

-- whose turn it is

turn-some : (stalled : Bool) (moment_at : Option ℕ) (moment : ℕ) → turn_at stalled moment_at ≡ Some moment →
    (stalled ≡ false) × (moment_at ≡ Some moment)
turn-some true moment_at moment is = absurd (none≢some moment is)
turn-some false moment_at moment is = (refl, is)

not-below : (m n x y : ℕ) → m ≤ n → (y < x → m < n) → is_below (key_at n y) (key_at m x) ≡ false
not-below m n x y le less = by_test (nat_lt n m) (n == m) (nat_lt y x) refl refl refl
  where
    by_test : (a b c : Bool) → nat_lt n m ≡ a → (n == m) ≡ b → nat_lt y x ≡ c → (a || (b && c)) ≡ false
    by_test true b c ea eb ec = absurd (let below : n < m = grind (arith, nat_tests, ea) in omega (arith, below, le))
    by_test false true true ea eb ec =
        absurd (let same : n ≡ m = grind (arith, nat_tests, eb) in
        let low : y < x = grind (arith, nat_tests, ec) in let lower = less low in omega (arith, same, lower))
    by_test false true false ea eb ec = refl
    by_test false false c ea eb ec = refl

key-some : (x : ℕ) (moment_at : Option ℕ) (c : Key) → key_by x moment_at ≡ Some c →
    (m : ℕ) × (moment_at ≡ Some m) × (c ≡ key_at m x)
key-some x None c is = absurd (none≢some c is)
key-some x (Some m) c is = (m, refl, sym (some_same is))

pub feed-at : (feeds : List Feed) (x : ℕ) → x < length feeds → (f : Feed) × (slice_get feeds x ≡ Some f)
feed-at [] x below = absurd (omega (arith, below))
feed-at (f ∷ fs) zero below = (f, refl)
feed-at (f ∷ fs) (suc x) below = feed-at fs x (omega (arith, below))

-- a link with a record is one of the links, and its feed has the moment
pub record IsPresentAt (feeds : List Feed) (y : ℕ) (c : Key) : Type 0 where
  pub feed : Feed
  pub at : slice_get feeds y ≡ Some feed
  pub moment : ℕ
  pub here : feed.record ≡ Some moment
  pub key : c ≡ key_at moment y

present-at : {S : Type 0} (tells : Bool) (contents : S → Contents) (s : Setup) (before : List ℕ)
    (base first limit : ℕ) (feeds : List Feed) (b : Bay) (at : S) (links : Links) (play : Play) →
    RunStands tells contents s before base first limit feeds b at links play → (y : ℕ) (c : Key) →
    links.present y ≡ Some c → IsPresentAt feeds y c
present-at tells contents s before base first limit feeds b at links play st y c is = by_low low_or_not
  where
    low_or_not : (y < length s.ins) ⊎ (length s.ins ≤ y)
    low_or_not = grind arith

    by_low : (y < length s.ins) ⊎ (length s.ins ≤ y) → IsPresentAt feeds y c
    by_low (inr high) = absurd (none≢some c (sym (st.none y high) ∙ is))
    by_low (inl low) =
        let f = feed-at feeds y (let many = st.are.many in omega (arith, low, many)) in
        let k = key-some y f.0.record c (sym (st.each y f.0 f.1).present_is ∙ is) in
        record { feed = f.0; at = f.1; moment = k.0; here = k.1; key = k.2 }

-- what each link tells of its turn
abbrev pub AreTurns : List Feed → List Bool → List (Option ℕ) → Type 0
AreTurns feeds stalled turns = (x : ℕ) (f : Feed) → slice_get feeds x ≡ Some f →
    slice_get turns x ≡ Some (turn_at (slice_index_or stalled x false) f.record)

may-turn : {S : Type 0} (tells : Bool) (contents : S → Contents) (s : Setup) (before : List ℕ)
    (base first limit : ℕ) (feeds : List Feed) (b : Bay) (at : S) (links : Links) (play : Play)
    (turns : List (Option ℕ)) → RunStands tells contents s before base first limit feeds b at links play →
    AreTurns feeds b.stalled turns → (y : ℕ) (c : Key) → links.stalled y ≡ false → links.present y ≡ Some c →
    (moment : ℕ) × MayStep turns y moment × (c ≡ key_at moment y)
may-turn tells contents s before base first limit feeds b at links play turns st are y c free is =
    let p = present-at tells contents s before base first limit feeds b at links play st y c is in (
      p.moment,
      are y p.feed p.at ∙ ap Some (ap (λ (c : Bool). turn_at c p.feed.record) (sym (st.bay.stalled y) ∙ free) ∙ p.here),
      p.key,
    )

pub run-may : {S : Type 0} (tells : Bool) (contents : S → Contents) (s : Setup) (before : List ℕ)
    (base first limit : ℕ) (feeds : List Feed) (b : Bay) (at : S) (links : Links) (play : Play)
    (turns : List (Option ℕ)) (x moment : ℕ) (f : Feed) →
    RunStands tells contents s before base first limit feeds b at links play → AreTurns feeds b.stalled turns →
    IsTurn turns x moment → slice_get feeds x ≡ Some f →
    StepMay tells contents s before first x moment f b at links play
run-may tells contents s before base first limit feeds b at links play turns x moment f st are turn is = record {
  stands = st.bay;
  drained = st.drained;
  feed = st.each x f is;
  source = let low = get-within feeds x f is in let many = st.are.many in omega (arith, low, many);
  here = mine.1;
  free = st.bay.stalled x ∙ mine.0;
  least = λ y c free here.
      let m = may-turn tells contents s before base first limit feeds b at links play turns st are y c free here in
      subst (λ (k : Key). is_below k (key_at moment x) ≡ false) (sym m.2)
      (not-below moment m.0 x y (turn.least y m.0 m.1) (λ low. turn.first y m.0 low m.1));
  room = st.room x f is;
}
  where
    mine : (slice_index_or b.stalled x false ≡ false) × (f.record ≡ Some moment)
    mine = turn-some (slice_index_or b.stalled x false) f.record moment (some_same (sym (are x f is) ∙ turn.may))

    get-within : (fs : List Feed) (i : ℕ) (g : Feed) → slice_get fs i ≡ Some g → i < length fs
    get-within [] i g e = absurd (none≢some g e)
    get-within (h ∷ hs) zero g e = omega arith
    get-within (h ∷ hs) (suc i) g e = let rest = get-within hs i g e in omega (arith, rest)

-- none may step, so none has a record
pub run-over : {S : Type 0} (tells : Bool) (contents : S → Contents) (s : Setup) (before : List ℕ)
    (base first limit : ℕ) (feeds : List Feed) (b : Bay) (at : S) (links : Links) (play : Play)
    (turns : List (Option ℕ)) →
    RunStands tells contents s before base first limit feeds b at links play → AreTurns feeds b.stalled turns →
    ((y m : ℕ) → MayStep turns y m → ⊥) → RunOver tells contents s before base first limit feeds b at
run-over tells contents s before base first limit feeds b at links play turns st are none = record {
  links = links;
  play = play;
  stands = st;
  over = λ x. by_key x (links.present x) refl;
}
  where
    by_key : (x : ℕ) (o : Option Key) → links.present x ≡ o → o ≡ None
    by_key x None is = refl
    by_key x (Some k) is =
        let p = course-progress s b.router links (turn_key b.greatest) play x k st.bay.course st.drained is in
        let m = may-turn tells contents s before base first limit feeds b at links play turns st are p.0 p.1 p.2 p.3 in
        absurd (none p.0 m.0 m.1)

-- the other links when one stepped

abbrev pub FeedsKeep : {S : Type 0} → (S → Contents) → Bool → (at now : S) → (h : ℕ) → Type 0
FeedsKeep contents tells at now h = IsTrue tells → ((contents now).left h ≡ (contents at).left h)
    × ((contents now).taken h ≡ (contents at).taken h) × (is_readable (contents now) h ≡ is_readable (contents at) h)

pub other-keeps : {S : Type 0} (tells : Bool) (contents : S → Contents) (base count first outs x y : ℕ)
    (at now : S) (f g : Feed) → RunTouched tells contents f.link.supply.handle 1 first outs at now → y ≢ x →
    (IsTrue tells → f.link.supply.handle ≡ base + x) → (IsTrue tells → g.link.supply.handle ≡ base + y) →
    FeedsKeep contents tells at now g.link.supply.handle
other-keeps tells contents base count first outs x y at now f g touched apart here there t = (
  touched.left t g.link.supply.handle away,
  touched.taken t g.link.supply.handle away,
  ap (λ given. is_readable (record (contents at) { given = given }) g.link.supply.handle) (touched.given t),
)
  where
    away : f.link.supply.handle ≤ g.link.supply.handle → g.link.supply.handle < f.link.supply.handle + 1 → ⊥
    away low high = let a = here t in let b = there t in apart (omega (arith, a, b, low, high))

feed-other : {S : Type 0} (tells : Bool) (contents : S → Contents) (y : ℕ) (g : Feed) (at now : S)
    (was is : Option Key) (given_was given_is : List Put) →
    FeedsKeep contents tells at now g.link.supply.handle → is ≡ was → given_is ≡ given_was →
    FeedStands tells contents y g at was given_was → FeedStands tells contents y g now is given_is
feed-other tells contents y g at now was is given_was given_is keep same given st =
    subst (λ p. FeedStands tells contents y g now p given_is) (sym same)
    (subst (λ p. FeedStands tells contents y g now was p) (sym given)
    (feed-kept tells contents y g at now was given_was
    (λ told. link-kept tells contents g.link at now told (λ t. (keep t).0) (λ t. (keep t).1) (λ t. (keep t).2)) st))

pub feeds-set : (tells : Bool) (s : Setup) (base limit : ℕ) (feeds : List Feed) (x : ℕ) (f new : Feed) →
    AreFeeds tells s base limit feeds → slice_get feeds x ≡ Some f → IsSameLink f.link new.link →
    AreFeeds tells s base limit (slice_set feeds x new)
feeds-set tells s base limit feeds x f new are is same = record {
  many = length-set feeds x new ∙ are.many;
  here = at-set (λ y (g : Feed). IsTrue tells → g.link.supply.handle ≡ base + y) feeds x new f is
      (λ t. same.handle ∙ are.here x f is t) (λ y g apart at. are.here y g at);
  own = λ y g port at port_at. at-set (λ z (h : Feed). (p : RigPort) → slice_get s.ins z ≡ Some p →
      IsFeed p limit h.link.supply.handle h) feeds x new f is
      (λ p p_at. let own = are.own x f p is p_at in record {
        handle_is = refl;
        limit_is = same.limit ∙ own.limit_is;
        spec = same.spec ∙ own.spec;
        track = same.track ∙ own.track;
      }) (λ z h apart z_at p p_at. are.own z h p z_at p_at) y g at port port_at;
}

pub record RunGoes {S : Type 0} (tells : Bool) (contents : S → Contents) (s : Setup) (before : List ℕ)
    (base first limit : ℕ) (feeds : List Feed) (b : Bay) (at : S) : Type 0 where
  pub links : Links
  pub play : Play
  pub stands : RunStands tells contents s before base first limit feeds b at links play

pub run-stepped : {S : Type 0} (tells : Bool) (contents : S → Contents) (s : Setup) (before : List ℕ)
    (base first limit outs : ℕ) (feeds : List Feed) (b now : Bay) (at then : S) (links : Links) (play : Play) (x : ℕ)
    (f new : Feed) → RunStands tells contents s before base first limit feeds b at links play →
    slice_get feeds x ≡ Some f → x < length s.ins → IsSameLink f.link new.link →
    RunTouched tells contents f.link.supply.handle 1 first outs at then →
    StepEnds tells contents s before first x b.router new now then links →
    RunGoes tells contents s before base first limit (slice_set feeds x new) now then
run-stepped tells contents s before base first limit outs feeds b now at then links play x f new st is below same touched
    ends = record {
      links = ends.links_now;
      play = ends.play;
      stands = record {
        bay = ends.stands;
        drained = ends.drained;
        are = feeds-set tells s base limit feeds x f new st.are is same;
        each = at-set (λ y (g : Feed). FeedStands tells contents y g then (ends.links_now.present y)
            (ends.links_now.given y)) feeds x new f is ends.feed
            (λ y g apart at_y. feed-other tells contents y g at then (links.present y) (ends.links_now.present y)
            (links.given y) (ends.links_now.given y)
            (other-keeps tells contents base 1 first outs x y at then f g touched apart (st.are.here x f is)
            (st.are.here y g at_y)) (ends.others.present y apart) (ends.others.given y apart) (st.each y g at_y));
        none = λ y high. ends.others.present y (λ e. omega (arith, e, high, below)) ∙ st.none y high;
        room = at-set (λ y (g : Feed). g.waiting ≢ None → HasRoom now.router ends.links_now y) feeds x new f is
            ends.room (λ y g apart at_y waits. ends.others.room y apart (st.room y g at_y waits));
      };
    }

pub run-stopped : {S : Type 0} (tells : Bool) (contents : S → Contents) (s : Setup) (before : List ℕ)
    (base first limit outs : ℕ) (feeds : List Feed) (b now : Bay) (at then : S) (links : Links) (play : Play) (x : ℕ)
    (f new : Feed) → RunStands tells contents s before base first limit feeds b at links play →
    slice_get feeds x ≡ Some f → IsSameLink f.link new.link →
    RunTouched tells contents f.link.supply.handle 1 first outs at then →
    StepStops tells contents s before first x b.router new now then links →
    RunStopped tells contents s before base first limit (slice_set feeds x new) now then
run-stopped tells contents s before base first limit outs feeds b now at then links play x f new st is same touched stops =
    record {
      links = stops.links_now;
      play = stops.play;
      bay = stops.stands;
      idle = no-offer now.router.offered stops.play.offered stops.stands.course.order.plays.offered
          ((reached-fits s now.router stops.stands.course.reached).quiet stops.drained).0;
      are = feeds-set tells s base limit feeds x f new st.are is same;
      fronts = at-set (λ y (g : Feed). FeedFront tells contents g then (stops.links_now.given y)) feeds x new f is
          stops.front
          (λ y g apart at_y. feed-stopped tells contents y g then (links.present y) (stops.links_now.given y)
          (feed-other tells contents y g at then (links.present y) (links.present y)
          (links.given y) (stops.links_now.given y)
          (other-keeps tells contents base 1 first outs x y at then f g touched apart (st.are.here x f is)
          (st.are.here y g at_y)) refl (stops.others.given y apart) (st.each y g at_y)));
    }

-- a write failed
pub run-broken : {S : Type 0} (tells : Bool) (contents : S → Contents) (s : Setup) (before : List ℕ)
    (base first limit outs : ℕ) (feeds : List Feed) (b : Bay) (at then : S) (links : Links) (play : Play) (x : ℕ)
    (f new : Feed) → RunStands tells contents s before base first limit feeds b at links play →
    slice_get feeds x ≡ Some f → IsSameLink f.link new.link →
    RunTouched tells contents f.link.supply.handle 1 first outs at then →
    StepBroke tells contents s before x new then links →
    RunBroken tells contents s before base limit (slice_set feeds x new) then
run-broken tells contents s before base first limit outs feeds b at then links play x f new st is same touched broke =
    record {
      given = broke.given;
      broke = broke.broke;
      are = feeds-set tells s base limit feeds x f new st.are is same;
      fronts = at-set (λ y (g : Feed). FeedFront tells contents g then (broke.given y)) feeds x new f is broke.front
          (λ y g apart at_y. feed-stopped tells contents y g then (links.present y) (broke.given y)
          (feed-other tells contents y g at then (links.present y) (links.present y) (links.given y) (broke.given y)
          (other-keeps tells contents base 1 first outs x y at then f g touched apart (st.are.here x f is)
          (st.are.here y g at_y)) refl (broke.others y apart) (st.each y g at_y)));
    }

-- what a stop at a link says of the run

pub halts-by : (tells : Bool) (s : Setup) (base limit x handle : ℕ) (now : Contents) (stop : RunStop) →
    x < length s.ins → (IsTrue tells → handle ≡ base + x) → StopsBy tells limit (now.taken handle) stop →
    HaltsBy tells s base limit now (end_by x stop)
halts-by tells s base limit x handle now stop.WriteFault below here by = tt
halts-by tells s base limit x handle now (stop.Link why.ReadFault) below here by = tt
halts-by tells s base limit x handle now (stop.Link why.TooLong) below here by = (
  below,
  λ t. subst (λ h. (length (now.taken h) ≡ limit) × (tape_fault (now.taken h) ≡ None)) (here t) (by t),
)
halts-by tells s base limit x handle now (stop.Link (why.BadTape fault)) below here by = (
  below,
  λ t. subst (λ h. (bytes : List ℕ) × IsFront bytes (now.taken h) × (tape_fault bytes ≡ Some fault)) (here t) (by t),
)

by-end : (x : ℕ) (stop : RunStop) (P Q P_now Q_now : Type 0) → (P → P_now) → (Q → Q_now) → ByStop stop P Q →
    ByEnd (end_by x stop) P_now Q_now
by-end x stop.WriteFault P Q P_now Q_now f g q = g q
by-end x (stop.Link why.ReadFault) P Q P_now Q_now f g p = f p
by-end x (stop.Link why.TooLong) P Q P_now Q_now f g p = f p
by-end x (stop.Link (why.BadTape fault)) P Q P_now Q_now f g p = f p

-- the counts at a stop
pub end-cause : (x : ℕ) (reads reads_now writes writes_now : ℕ) (stop : RunStop) →
    StopCause reads reads_now writes writes_now stop → EndCause reads reads_now writes writes_now (end_by x stop)
end-cause x reads reads_now writes writes_now stop.WriteFault by = by
end-cause x reads reads_now writes writes_now (stop.Link why.ReadFault) by = by
end-cause x reads reads_now writes writes_now (stop.Link why.TooLong) by = by
end-cause x reads reads_now writes writes_now (stop.Link (why.BadTape fault)) by = by

pub caused : (x reads reads_mid reads_now writes writes_mid writes_now : ℕ) (stop : RunStop) (end : RigEnd) →
    reads_mid ≡ reads → writes_mid ≡ writes → end ≡ end_by x stop →
    StopCause reads_mid reads_now writes_mid writes_now stop → EndCause reads reads_now writes writes_now end
caused x reads reads_mid reads_now writes writes_mid writes_now stop end reads_are writes_are is by =
    subst (EndCause reads reads_now writes writes_now) (sym is)
    (subst (λ (r : ℕ). EndCause r reads_now writes writes_now (end_by x stop)) reads_are
    (subst (λ (w : ℕ). EndCause reads_mid reads_now w writes_now (end_by x stop)) writes_are
    (end-cause x reads_mid reads_now writes_mid writes_now stop by)))

pub port-at : (ports : List RigPort) (i : ℕ) → i < length ports → (p : RigPort) × (slice_get ports i ≡ Some p)
port-at [] i low = absurd (omega (arith, low))
port-at (p ∷ ps) zero low = (p, refl)
port-at (p ∷ ps) (suc i) low = port-at ps i (omega (arith, low))

pub halted : {S : Type 0} (tells : Bool) (contents : S → Contents) (s : Setup) (before : List ℕ)
    (base first limit outs : ℕ) (feeds : List Feed) (b now : Bay) (at then : S) (links : Links) (play : Play) (x : ℕ)
    (f new : Feed) (stop : RunStop) (end : RigEnd) →
    RunStands tells contents s before base first limit feeds b at links play → slice_get feeds x ≡ Some f →
    IsSameLink f.link new.link → RunTouched tells contents f.link.supply.handle 1 first outs at then →
    end ≡ end_by x stop →
    ByStop stop (StepStops tells contents s before first x b.router new now then links)
    (StepBroke tells contents s before x new then links)
    × StopsBy tells f.link.supply.limit ((contents then).taken f.link.supply.handle) stop →
    ByEnd end (RunStopped tells contents s before base first limit (slice_set feeds x new) now then)
    (RunBroken tells contents s before base limit (slice_set feeds x new) then)
    × HaltsBy tells s base limit (contents then) end
halted tells contents s before base first limit outs feeds b now at then links play x f new stop end st is same touched
    is_end by =
    subst (λ e. ByEnd e (RunStopped tells contents s before base first limit (slice_set feeds x new) now then)
    (RunBroken tells contents s before base limit (slice_set feeds x new) then)
    × HaltsBy tells s base limit (contents then) e) (sym is_end) (
      by-end x stop (StepStops tells contents s before first x b.router new now then links)
          (StepBroke tells contents s before x new then links)
          (RunStopped tells contents s before base first limit (slice_set feeds x new) now then)
          (RunBroken tells contents s before base limit (slice_set feeds x new) then)
          (run-stopped tells contents s before base first limit outs feeds b now at then links play x f new st is same
          touched)
          (run-broken tells contents s before base first limit outs feeds b at then links play x f new st is same touched)
          by.0,
      halts-by tells s base limit x f.link.supply.handle (contents then) stop below (st.are.here x f is)
          (subst (λ l. StopsBy tells l ((contents then).taken f.link.supply.handle) stop) limit_is by.1),
    )
  where
    below : x < length s.ins
    below = let low = slice_get_within feeds x f is in let many = st.are.many in omega (arith, low, many)

    limit_is : f.link.supply.limit ≡ limit
    limit_is = let p = port-at s.ins x below in (st.are.own x f p.0 is p.1).limit_is

pub touched-step : {S : Type 0} (tells : Bool) (contents : S → Contents) (s : Setup) (base limit first : ℕ)
    (feeds : List Feed) (count outs_now outs x : ℕ) (f : Feed) (at mid then : S) →
    AreFeeds tells s base limit feeds → slice_get feeds x ≡ Some f → length feeds ≡ count → outs_now ≡ outs →
    RunTouched tells contents base count first outs at mid →
    RunTouched tells contents f.link.supply.handle 1 first outs_now mid then →
    RunTouched tells contents base count first outs at then
touched-step tells contents s base limit first feeds count outs_now outs x f at mid then are is many same was now =
    touched-then tells contents base count first outs at mid then was
    (touched-within tells contents f.link.supply.handle base count first outs mid then
    (λ t. let here = are.here x f is t in let low = slice_get_within feeds x f is in
    (omega (arith, here), omega (arith, here, low, many)))
    (subst (λ n. RunTouched tells contents f.link.supply.handle 1 first n mid then) same now))
