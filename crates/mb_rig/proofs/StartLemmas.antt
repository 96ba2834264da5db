-- Each tape is read to its first record.
use Rattle.std.proofs.Common.{◌≡◌, ◌≢◌, ◌⊎◌, inl, inr, ℕ, ◌+◌, ◌<◌, ◌≤◌, Bool, List, [], ◌++◌, length, IsTrue, Some, refl}
use Rattle.std.proofs.Common.{sym, ◌∙◌, ap, subst, arith}
use Rattle.std.specs.Prelude.{slice_get, slice_set}
use Rattle.std.proofs.lemmas.Option.{slice_get_within}
use Rattle.mb_outside.specs.Contents.{Contents}
use Rattle.mb_track.specs.Track.{track_marks}
use Rattle.mb_track.specs.TrackReading.{track_of, track_spec}
use Rattle.mb_rig.specs.RigText.{Setup}
use Rattle.mb_rig.specs.Link.{LinkStands, StopsAt, TookFrom}
use Rattle.mb_rig.specs.Feed.{FeedFront, FeedStands, IsSameLink, key_by}
use Rattle.mb_rig.specs.Running.{AreFeeds, HaltsBy, RunTouched}
use Rattle.mb_rig.specs.Beginning.{FeedsHalted, FeedsReady, FeedsStarted}
use Rattle.mb_rig.specs.Ending.{end_by}
use Rattle.mb_rig.specs.declared.ending.RigEnd.{RigEnd}
use Rattle.mb_rig.specs.declared.feed.Feed.{Feed}
use Rattle.mb_rig.specs.declared.feed.RunStop.TheVariants as stop
use Rattle.mb_rig.specs.declared.link.LinkStop.{LinkStop}
use Rattle.mb_rig.proofs.FeedLemmas.{feed-kept, feed-stopped, link-kept}
use Rattle.mb_rig.proofs.RunLemmas.{FeedsKeep, at-set, feeds-set, halts-by, other-keeps, port-at}
use Rattle.mb_rig.proofs.StepLemmas.{touched-then, touched-took, touched-within}

-- the links below this one know their first records
pub record FeedsUnder {S : Type 0} (tells : Bool) (contents : S → Contents) (s : Setup) (base limit n : ℕ)
    (feeds : List Feed) (at : S) : Type 0 where
  pub are : AreFeeds tells s base limit feeds
  pub known : (x : ℕ) (f : Feed) → slice_get feeds x ≡ Some f → x < n →
      FeedStands tells contents x f at (key_by x f.record) []
  pub fresh : (x : ℕ) (f : Feed) → slice_get feeds x ≡ Some f → n ≤ x → LinkStands tells contents f.link at []

pub under-first : {S : Type 0} (tells : Bool) (contents : S → Contents) (s : Setup) (base limit : ℕ)
    (feeds : List Feed) (at : S) → FeedsReady tells contents s base limit feeds at →
    FeedsUnder tells contents s base limit 0 feeds at
under-first tells contents s base limit feeds at ready = record {
  are = ready.are;
  known = λ x f is low. absurd (omega (arith, low));
  fresh = λ x f is high. ready.each x f is;
}

stands-kept : {S : Type 0} (tells : Bool) (contents : S → Contents) (g : Feed) (at now : S) →
    FeedsKeep contents tells at now g.link.supply.handle → LinkStands tells contents g.link at [] →
    LinkStands tells contents g.link now []
stands-kept tells contents g at now keep st =
    link-kept tells contents g.link at now [] (λ t. (keep t).0) (λ t. (keep t).1) (λ t. (keep t).2) st

known-kept : {S : Type 0} (tells : Bool) (contents : S → Contents) (y : ℕ) (g : Feed) (at now : S) →
    FeedsKeep contents tells at now g.link.supply.handle → FeedStands tells contents y g at (key_by y g.record) [] →
    FeedStands tells contents y g now (key_by y g.record) []
known-kept tells contents y g at now keep st =
    feed-kept tells contents y g at now (key_by y g.record) []
    (λ told. link-kept tells contents g.link at now told (λ t. (keep t).0) (λ t. (keep t).1) (λ t. (keep t).2)) st

-- one link more
pub under-next : {S : Type 0} (tells : Bool) (contents : S → Contents) (s : Setup) (base limit n : ℕ)
    (feeds : List Feed) (at then : S) (f new : Feed) → FeedsUnder tells contents s base limit n feeds at →
    slice_get feeds n ≡ Some f → IsSameLink f.link new.link →
    (IsTrue tells → TookFrom f.link.supply.handle (contents at) (contents then)) →
    FeedStands tells contents n new then (key_by n new.record) [] →
    FeedsUnder tells contents s base limit (n + 1) (slice_set feeds n new) then
under-next tells contents s base limit n feeds at then f new under is same took st = record {
  are = feeds-set tells s base limit feeds n f new under.are is same;
  known = at-set (λ y (g : Feed). y < n + 1 → FeedStands tells contents y g then (key_by y g.record) []) feeds n new f is
      (λ low. st) (λ y g apart at_y low. known-kept tells contents y g at then (keeps y g apart at_y)
      (under.known y g at_y (omega (arith, low, apart_of y apart))));
  fresh = at-set (λ y (g : Feed). n + 1 ≤ y → LinkStands tells contents g.link then []) feeds n new f is
      (λ high. absurd (omega (arith, high)))
      (λ y g apart at_y high. stands-kept tells contents g at then (keeps y g apart at_y)
      (under.fresh y g at_y (omega (arith, high))));
}
  where
    touched : RunTouched tells contents f.link.supply.handle 1 0 0 at then
    touched = touched-took tells contents f.link.supply.handle f.link.supply.handle 0 0 at then refl took

    keeps : (y : ℕ) (g : Feed) → y ≢ n → slice_get feeds y ≡ Some g →
        FeedsKeep contents tells at then g.link.supply.handle
    keeps y g apart at_y = other-keeps tells contents base 1 0 0 n y at then f g touched apart (under.are.here n f is)
        (under.are.here y g at_y)

    apart_of : (y : ℕ) → y ≢ n → (y < n) ⊎ (n < y)
    apart_of y apart = grind (arith, apart)

-- all of them
pub under-all : {S : Type 0} (tells : Bool) (contents : S → Contents) (s : Setup) (base limit n : ℕ)
    (feeds : List Feed) (at : S) → FeedsUnder tells contents s base limit n feeds at → length feeds ≤ n →
    FeedsStarted tells contents s base limit feeds at
under-all tells contents s base limit n feeds at under all = record {
  are = under.are;
  each = λ x f is. under.known x f is (let low = slice_get_within feeds x f is in omega (arith, low, all));
}

-- a link stops it
pub under-halts : {S : Type 0} (tells : Bool) (contents : S → Contents) (s : Setup) (base limit n : ℕ)
    (feeds : List Feed) (at then : S) (f new : Feed) → FeedsUnder tells contents s base limit n feeds at →
    slice_get feeds n ≡ Some f → IsSameLink f.link new.link →
    (IsTrue tells → TookFrom f.link.supply.handle (contents at) (contents then)) →
    FeedFront tells contents new then [] → FeedsHalted tells contents s base limit (slice_set feeds n new) then
under-halts tells contents s base limit n feeds at then f new under is same took front = record {
  are = feeds-set tells s base limit feeds n f new under.are is same;
  fronts = at-set (λ y (g : Feed). FeedFront tells contents g then []) feeds n new f is front
      (λ y g apart at_y. by_place y g at_y (keeps y g apart at_y) (low_or_not y));
}
  where
    keeps : (y : ℕ) (g : Feed) → y ≢ n → slice_get feeds y ≡ Some g →
        FeedsKeep contents tells at then g.link.supply.handle
    keeps y g apart at_y = other-keeps tells contents base 1 0 0 n y at then f g
        (touched-took tells contents f.link.supply.handle f.link.supply.handle 0 0 at then refl took) apart
        (under.are.here n f is) (under.are.here y g at_y)

    low_or_not : (y : ℕ) → (y < n) ⊎ (n ≤ y)
    low_or_not y = grind arith

    by_place : (y : ℕ) (g : Feed) → slice_get feeds y ≡ Some g → FeedsKeep contents tells at then g.link.supply.handle →
        (y < n) ⊎ (n ≤ y) → FeedFront tells contents g then []
    by_place y g at_y keep (inl low) = feed-stopped tells contents y g then (key_by y g.record) []
        (known-kept tells contents y g at then keep (under.known y g at_y low))
    by_place y g at_y keep (inr high) =
        let st = stands-kept tells contents g at then keep (under.fresh y g at_y high) in
        record { front = λ t. (_, refl); counted = st.counted }

pub under-touched : {S : Type 0} (tells : Bool) (contents : S → Contents) (s : Setup)
    (base limit first outs n count : ℕ) (feeds : List Feed) (start at then : S) (f : Feed) →
    FeedsUnder tells contents s base limit n feeds at → slice_get feeds n ≡ Some f → length feeds ≡ count →
    RunTouched tells contents base count first outs start at →
    (IsTrue tells → TookFrom f.link.supply.handle (contents at) (contents then)) →
    RunTouched tells contents base count first outs start then
under-touched tells contents s base limit first outs n count feeds start at then f under is many touched took =
    touched-then tells contents base count first outs start at then touched
    (touched-within tells contents f.link.supply.handle base count first outs at then
    (λ t. let here = under.are.here n f is t in let low = slice_get_within feeds n f is in
    (omega (arith, here), omega (arith, here, low, many)))
    (touched-took tells contents f.link.supply.handle f.link.supply.handle first outs at then refl took))

pub start-halts : (tells : Bool) (s : Setup) (base limit n : ℕ) (feeds : List Feed) (f : Feed) (now : Contents)
    (reason : LinkStop) (end : RigEnd) → AreFeeds tells s base limit feeds → slice_get feeds n ≡ Some f →
    (IsTrue tells → StopsAt f.link.supply.limit (now.taken f.link.supply.handle) reason) →
    end ≡ end_by n (stop.Link reason) → HaltsBy tells s base limit now end
start-halts tells s base limit n feeds f now reason end are is stops is_end =
    subst (HaltsBy tells s base limit now) (sym is_end)
    (halts-by tells s base limit n f.link.supply.handle now (stop.Link reason) below (are.here n f is)
    (λ t. subst (λ l. StopsAt l (now.taken f.link.supply.handle) reason) limit_is (stops t)))
  where
    below : n < length s.ins
    below = let low = slice_get_within feeds n f is in let many = are.many in omega (arith, low, many)

    limit_is : f.link.supply.limit ≡ limit
    limit_is = let p = port-at s.ins n below in (are.own n f p.0 is p.1).limit_is
