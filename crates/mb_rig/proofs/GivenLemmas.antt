-- The files of a rig, one by one.
use Rattle.std.proofs.Common.{◌≡◌, ◌≢◌, ◌⊎◌, inl, inr, ⊎_elim, ℕ, zero, suc, ◌+◌, ◌<◌, ◌≤◌, Bool, true, false, List, []}
use Rattle.std.proofs.Common.{◌∷◌, ◌++◌, length, map, IsTrue, Some, None, refl, sym, ◌∙◌, ap, subst, arith}
use Rattle.std.proofs.Common.{append_assoc, append-nil, length-append}
use Rattle.std.specs.Prelude.{slice_get}
use Rattle.std.proofs.lemmas.List.{length-map, map-append}
use Rattle.std.proofs.lemmas.Option.{slice_get_within}
use Rattle.mb_message.specs.Front.{IsPart}
use Rattle.mb_stream.specs.Puts.{Put}
use Rattle.mb_outside.specs.Contents.{Contents, SameAt, after_create, after_open, next_handle}
use Rattle.mb_outside.specs.ContentsLaws.{with_entry-here}
use Rattle.mb_outside.proofs.HandleLemmas.{same-create, same-open}
use Rattle.mb_track.specs.TrackReading.{track_of, track_spec}
use Rattle.mb_carrier.specs.declared.spec.Spec.{Spec}
use Rattle.mb_rig.specs.RigText.{RigPort}
use Rattle.mb_rig.specs.Right.{specs_of}
use Rattle.mb_rig.specs.RigRun.{to_read, to_write}
use Rattle.mb_rig.specs.Link.{LinkStands}
use Rattle.mb_rig.specs.Feed.{IsFeed}
use Rattle.mb_rig.specs.Outlet.{OutletStands, outlet_spec}
use Rattle.mb_rig.specs.Outs.{OutsStand}
use Rattle.mb_rig.specs.Given.{Apart, CreatedMore, CreatesPart, OpenedMore, OpensPart}
use Rattle.mb_rig.specs.Beginning.{FeedsOpened, OutsCreated, nothing_put}
use Rattle.mb_rig.specs.declared.feed.Feed.{Feed}
use Rattle.mb_rig.specs.declared.link.Link.{Link}
use Rattle.mb_rig.specs.declared.outlet.Outlet.{Outlet}
use Rattle.mb_rig.proofs.FeedLemmas.{link-same}
use Rattle.mb_rig.proofs.OutsLemmas.{entry-other}
use Rattle.mb_rig.proofs.Merging.Lateness.{none≢some, same_or_not, some_same}

-- one of a list with one more

pub get-push : {A : Type 0} (xs : List A) (y : A) (i : ℕ) (z : A) → slice_get (xs ++ y ∷ []) i ≡ Some z →
    (slice_get xs i ≡ Some z) ⊎ ((i ≡ length xs) × (y ≡ z))
get-push [] y zero z is = inr (refl, some_same is)
get-push [] y (suc i) z is = absurd (none≢some z is)
get-push (x ∷ xs) y zero z is = inl is
get-push (x ∷ xs) y (suc i) z is = later (get-push xs y i z is)
  where
    later : (slice_get xs i ≡ Some z) ⊎ ((i ≡ length xs) × (y ≡ z)) →
        (slice_get xs i ≡ Some z) ⊎ ((suc i ≡ suc (length xs)) × (y ≡ z))
    later (inl here) = inl here
    later (inr last) = inr (ap suc last.0, last.1)

pub read-many : (ports : List RigPort) → length (to_read ports) ≡ length ports
read-many ports = length-map {B = List ℕ × Bool} ports (λ (p : RigPort). (p.file, false))

pub write-many : (ports : List RigPort) → length (to_write ports) ≡ length ports
write-many ports = length-map {B = List ℕ × Bool} ports (λ (p : RigPort). (p.file, true))

many-push : {A : Type 0} (xs : List A) (y : A) → length (xs ++ y ∷ []) ≡ length xs + 1
many-push xs y = length-append xs (y ∷ [])

-- a file more

pub next-by : (c d : Contents) (files : List (List ℕ × Bool)) → d.given ≡ c.given ++ files →
    next_handle d ≡ next_handle c + length files
next-by c d files given = omega (arith, ap length given, length-append c.given files)

apart-less : (first count h : ℕ) → Apart first (count + 1) h → Apart first count h
apart-less first count h apart low high = apart low (omega (arith, high))

apart-last : (first count h : ℕ) → Apart first (count + 1) h → h ≢ first + count
apart-last first count h apart e = apart (omega (arith, e)) (omega (arith, e))

pub opened-none : (c : Contents) → OpenedMore c c []
opened-none c = record {
  given = sym (append-nil c.given);
  left = λ h apart. refl;
  taken = λ h apart. refl;
  unread = λ place low. absurd (omega (arith, low));
  written = refl;
}

opened-push : (c d e : Contents) (files : List (List ℕ × Bool)) (name content : List ℕ) → OpenedMore c d files →
    e ≡ after_open name content d → OpenedMore c e (files ++ (name, false) ∷ [])
opened-push c d e files name content more is = record {
  given = ap (λ (z : Contents). z.given) is
      ∙ (ap (λ gs. gs ++ (name, false) ∷ []) more.given ∙ append_assoc c.given files ((name, false) ∷ []));
  left = λ h apart.
      let wide = subst (λ n. Apart (next_handle c) n h) (many-push files (name, false)) apart in
      ap (λ (z : Contents). z.left h) is
      ∙ (entry-other d.left (next_handle d) content h (not_next h wide)
      ∙ more.left h (apart-less (next_handle c) (length files) h wide));
  taken = λ h apart.
      let wide = subst (λ n. Apart (next_handle c) n h) (many-push files (name, false)) apart in
      ap (λ (z : Contents). z.taken h) is
      ∙ (entry-other d.taken (next_handle d) [] h (not_next h wide)
      ∙ more.taken h (apart-less (next_handle c) (length files) h wide));
  unread = λ place low. ap (λ (z : Contents). z.taken (next_handle c + place)) is ∙ ⊎_elim
      (λ (e : place ≡ length files). ap (λ n. (after_open name content d).taken (next_handle c + n)) e
      ∙ (ap (after_open name content d).taken (sym next) ∙ with_entry-here d.taken (next_handle d) []))
      (λ (apart : place ≢ length files). entry-other d.taken (next_handle d) [] (next_handle c + place)
      (λ same. apart (omega (arith, same, next)))
      ∙ more.unread place (below place low apart)) (same_or_not place (length files));
  written = ap (λ (z : Contents). z.written) is ∙ more.written;
}
  where
    next : next_handle d ≡ next_handle c + length files
    next = next-by c d files more.given

    not_next : (h : ℕ) → Apart (next_handle c) (length files + 1) h → h ≢ next_handle d
    not_next h wide same = apart-last (next_handle c) (length files) h wide (same ∙ next)

    below : (place : ℕ) → place < length (files ++ (name, false) ∷ []) → place ≢ length files → place < length files
    below place low apart =
        let many = many-push files (name, false) in grind (arith, low, many, apart)

pub created-none : (c : Contents) → CreatedMore c c []
created-none c = record {
  given = sym (append-nil c.given);
  left = refl;
  taken = refl;
  written = λ h apart. refl;
  empty = λ place low. absurd (omega (arith, low));
}

created-push : (c d e : Contents) (files : List (List ℕ × Bool)) (name : List ℕ) → CreatedMore c d files →
    e ≡ after_create name d → CreatedMore c e (files ++ (name, true) ∷ [])
created-push c d e files name more is = record {
  given = ap (λ (z : Contents). z.given) is
      ∙ (ap (λ gs. gs ++ (name, true) ∷ []) more.given ∙ append_assoc c.given files ((name, true) ∷ []));
  left = ap (λ (z : Contents). z.left) is ∙ more.left;
  taken = ap (λ (z : Contents). z.taken) is ∙ more.taken;
  written = λ h apart.
      let wide = subst (λ n. Apart (next_handle c) n h) (many-push files (name, true)) apart in
      ap (λ (z : Contents). z.written h) is
      ∙ (entry-other d.written (next_handle d) [] h
      (λ same. apart-last (next_handle c) (length files) h wide (same ∙ next))
      ∙ more.written h (apart-less (next_handle c) (length files) h wide));
  empty = λ place low. ap (λ (z : Contents). z.written (next_handle c + place)) is ∙ ⊎_elim
      (λ (e : place ≡ length files). ap (λ n. (after_create name d).written (next_handle c + n)) e
      ∙ (ap (after_create name d).written (sym next) ∙ with_entry-here d.written (next_handle d) []))
      (λ (apart : place ≢ length files). entry-other d.written (next_handle d) [] (next_handle c + place)
      (λ same. apart (omega (arith, same, next)))
      ∙ more.empty place (below place low apart)) (same_or_not place (length files));
}
  where
    next : next_handle d ≡ next_handle c + length files
    next = next-by c d files more.given

    below : (place : ℕ) → place < length (files ++ (name, true) ∷ []) → place ≢ length files → place < length files
    below place low apart =
        let many = many-push files (name, true) in grind (arith, low, many, apart)

-- the links

pub feeds-none : {S : Type 0} (tells : Bool) (contents : S → Contents) (limit : ℕ) (at : S) →
    FeedsOpened tells contents [] limit [] (contents at) at
feeds-none tells contents limit at = record {
  many = refl;
  here = λ x f is. absurd (none≢some f is);
  own = λ x f port is port_is. absurd (none≢some f is);
  each = λ x f is. absurd (none≢some f is);
  more = λ t. opened-none (contents at);
}

-- a link's file was opened
pub record LinkOpened {S : Type 0} (tells : Bool) (contents : S → Contents) (p : RigPort) (limit : ℕ) (f : Feed)
    (at now : S) : Type 0 where
  pub opened : IsTrue tells → (f.link.supply.handle ≡ next_handle (contents at)) × (content : List ℕ)
      × (contents now ≡ after_open p.file content (contents at))
  pub spec : track_spec f.link.reader ≡ p.spec
  pub track : track_of f.link.reader ≡ p.track
  pub limit_is : f.link.supply.limit ≡ limit
  pub stands : LinkStands tells contents f.link now []

pub feeds-push : {S : Type 0} (tells : Bool) (contents : S → Contents) (done : List RigPort) (p : RigPort)
    (limit : ℕ) (feeds : List Feed) (f : Feed) (start : Contents) (at now : S) →
    FeedsOpened tells contents done limit feeds start at → LinkOpened tells contents p limit f at now →
    FeedsOpened tells contents (done ++ p ∷ []) limit (feeds ++ f ∷ []) start now
feeds-push tells contents done p limit feeds f start at now was one = record {
  many = omega (arith, many-push feeds f, many-push done p, was.many);
  here = λ x g is t. here x g t (get-push feeds f x g is);
  own = λ x g port is port_is. own x g port (get-push feeds f x g is) (get-push done p x port port_is);
  each = λ x g is. each x g (get-push feeds f x g is);
  more = λ t. subst (OpenedMore start (contents now)) (sym (map-append {B = List ℕ × Bool} (λ (q : RigPort). (q.file, false)) done (p ∷ [])))
      (opened-push start (contents at) (contents now) (to_read done) p.file (one.opened t).1 (was.more t)
      (one.opened t).2);
}
  where
    next : IsTrue tells → next_handle (contents at) ≡ next_handle start + length feeds
    next t =
        let n = next-by start (contents at) (to_read done) (was.more t).given in
        let m = read-many done in
        let many = was.many in omega (arith, n, m, many)

    here : (x : ℕ) (g : Feed) → IsTrue tells → (slice_get feeds x ≡ Some g) ⊎ ((x ≡ length feeds) × (f ≡ g)) →
        g.link.supply.handle ≡ next_handle start + x
    here x g t (inl is) = was.here x g is t
    here x g t (inr last) =
        ap (λ (z : Feed). z.link.supply.handle) (sym last.1)
        ∙ ((one.opened t).0 ∙ (next t ∙ ap (λ n. next_handle start + n) (sym last.0)))

    own : (x : ℕ) (g : Feed) (port : RigPort) → (slice_get feeds x ≡ Some g) ⊎ ((x ≡ length feeds) × (f ≡ g)) →
        (slice_get done x ≡ Some port) ⊎ ((x ≡ length done) × (p ≡ port)) →
        IsFeed port limit g.link.supply.handle g
    own x g port (inl is) (inl port_is) = was.own x g port is port_is
    own x g port (inl is) (inr port_last) =
        let low = slice_get_within feeds x g is in absurd (omega (arith, low, port_last.0, was.many))
    own x g port (inr last) (inl port_is) =
        let low = slice_get_within done x port port_is in absurd (omega (arith, low, last.0, was.many))
    own x g port (inr last) (inr port_last) =
        subst (λ (z : Feed). IsFeed port limit z.link.supply.handle z) last.1
        (subst (λ (q : RigPort). IsFeed q limit f.link.supply.handle f) port_last.1
        (record { handle_is = refl; limit_is = one.limit_is; spec = one.spec; track = one.track }))

    each : (x : ℕ) (g : Feed) → (slice_get feeds x ≡ Some g) ⊎ ((x ≡ length feeds) × (f ≡ g)) →
        LinkStands tells contents g.link now []
    each x g (inl is) = link-same tells contents g.link at now []
        (λ t. subst (λ (z : Contents). SameAt (contents at) z g.link.supply.handle) (sym (one.opened t).2)
        (same-open p.file (one.opened t).1 (contents at) g.link.supply.handle
        (λ e. let low = slice_get_within feeds x g is in
        omega (arith, low, e, next t, was.here x g is t)))) (was.each x g is)
    each x g (inr last) = subst (λ (z : Feed). LinkStands tells contents z.link now []) last.1 one.stands

-- a file couldn't be opened
pub feeds-part : {S : Type 0} (tells : Bool) (contents : S → Contents) (done behind : List RigPort) (p : RigPort)
    (limit : ℕ) (feeds : List Feed) (start : Contents) (at now : S) →
    FeedsOpened tells contents done limit feeds start at → (IsTrue tells → contents now ≡ contents at) →
    IsTrue tells → OpensPart start (contents now) (to_read (done ++ p ∷ behind))
feeds-part tells contents done behind p limit feeds start at now was same t = record {
  front = to_read done;
  part = (
    (p.file, false) ∷ to_read behind,
    map-append {B = List ℕ × Bool} (λ (q : RigPort). (q.file, false)) done (p ∷ behind),
    omega arith,
  );
  more = subst (λ (z : Contents). OpenedMore start z (to_read done)) (sym (same t)) (was.more t);
}

-- the outs

pub outs-none : {S : Type 0} (tells : Bool) (contents : S → Contents) (at : S) →
    OutsCreated tells contents [] [] (contents at) at
outs-none tells contents at = record { specs = refl; stand = tt; more = λ t. created-none (contents at) }

-- an out's file was created
pub record OutCreated {S : Type 0} (tells : Bool) (contents : S → Contents) (p : RigPort) (o : Outlet)
    (at now : S) : Type 0 where
  pub created : IsTrue tells → (o.handle ≡ next_handle (contents at))
      × (contents now ≡ after_create p.file (contents at))
  pub spec : outlet_spec o ≡ p.spec
  pub stands : OutletStands tells contents o now []

outlet-same : {S : Type 0} (tells : Bool) (contents : S → Contents) (o : Outlet) (at now : S) (puts : List Put) →
    (IsTrue tells → SameAt (contents at) (contents now) o.handle) → OutletStands tells contents o at puts →
    OutletStands tells contents o now puts
outlet-same tells contents o at now puts same st = record {
  stands = st.stands;
  writable = λ t. (same t).writable ∙ st.writable t;
  has = λ t. (same t).written ∙ st.has t;
}

stand-push : {S : Type 0} (tells : Bool) (contents : S → Contents) (first : ℕ) (outs : List Outlet) (o : Outlet)
    (at now : S) → OutsStand tells contents first outs at (nothing_put outs) →
    ((h : ℕ) → h < first + length outs → IsTrue tells → SameAt (contents at) (contents now) h) →
    (IsTrue tells → o.handle ≡ first + length outs) → OutletStands tells contents o now [] →
    OutsStand tells contents first (outs ++ o ∷ []) now (nothing_put (outs ++ o ∷ []))
stand-push tells contents first [] o at now st same here one = (λ t. here t ∙ omega arith, one, tt)
stand-push tells contents first (q ∷ qs) o at now st same here one = (
  st.0,
  outlet-same tells contents q at now [] (λ t. subst (SameAt (contents at) (contents now)) (sym (st.0 t))
      (same first (omega arith) t)) st.1,
  stand-push tells contents (first + 1) qs o at now st.2 (λ h low t. same h (omega (arith, low)) t)
      (λ t. here t ∙ omega arith) one,
)

pub outs-push : {S : Type 0} (tells : Bool) (contents : S → Contents) (done : List RigPort) (p : RigPort)
    (outs : List Outlet) (o : Outlet) (start : Contents) (at now : S) →
    OutsCreated tells contents done outs start at → OutCreated tells contents p o at now →
    OutsCreated tells contents (done ++ p ∷ []) (outs ++ o ∷ []) start now
outs-push tells contents done p outs o start at now was one = record {
  specs = map-append outlet_spec outs (o ∷ []) ∙ (ap (λ (ss : List Spec). ss ++ outlet_spec o ∷ []) was.specs
      ∙ (ap (λ (s : Spec). specs_of done ++ s ∷ []) one.spec ∙ sym (map-append (λ (q : RigPort). q.spec) done (p ∷ []))));
  stand = stand-push tells contents (next_handle start) outs o at now was.stand
      (λ h low t. subst (λ (z : Contents). SameAt (contents at) z h) (sym (one.created t).1)
      (same-create p.file (contents at) h (λ e. omega (arith, low, e, next t))))
      (λ t. (one.created t).0 ∙ next t) one.stands;
  more = λ t. subst (CreatedMore start (contents now)) (sym (map-append {B = List ℕ × Bool} (λ (q : RigPort). (q.file, true)) done (p ∷ [])))
      (created-push start (contents at) (contents now) (to_write done) p.file (was.more t) (one.created t).1);
}
  where
    same_many : length outs ≡ length done
    same_many = sym (length-map outs outlet_spec) ∙ (ap length was.specs ∙ length-map done (λ (q : RigPort). q.spec))

    next : IsTrue tells → next_handle (contents at) ≡ next_handle start + length outs
    next t =
        let n = next-by start (contents at) (to_write done) (was.more t).given in
        let m = write-many done in
        let many = same_many in omega (arith, n, m, many)

-- a file couldn't be created
pub outs-part : {S : Type 0} (tells : Bool) (contents : S → Contents) (done behind : List RigPort) (p : RigPort)
    (outs : List Outlet) (start : Contents) (at now : S) →
    OutsCreated tells contents done outs start at → (IsTrue tells → contents now ≡ contents at) →
    IsTrue tells → CreatesPart start (contents now) (to_write (done ++ p ∷ behind))
outs-part tells contents done behind p outs start at now was same t = record {
  front = to_write done;
  part = (
    (p.file, true) ∷ to_write behind,
    map-append {B = List ℕ × Bool} (λ (q : RigPort). (q.file, true)) done (p ∷ behind),
    omega arith,
  );
  more = subst (λ (z : Contents). CreatedMore start z (to_write done)) (sym (same t)) (was.more t);
}

-- and those behind it are opened

pub link-by : {S : Type 0} (tells : Bool) (contents : S → Contents) (p : RigPort) (limit : ℕ) (l : Link) (f : Feed)
    (at now : S) → f.link ≡ l → (IsTrue tells → (l.supply.handle ≡ next_handle (contents at)) × (content : List ℕ)
    × (contents now ≡ after_open p.file content (contents at))) → track_spec l.reader ≡ p.spec →
    track_of l.reader ≡ p.track → l.supply.limit ≡ limit → LinkStands tells contents l now [] →
    LinkOpened tells contents p limit f at now
link-by tells contents p limit l f at now same opened spec track limit_is stands = record {
  opened = λ t. (ap (λ (z : Link). z.supply.handle) same ∙ (opened t).0, (opened t).1, (opened t).2);
  spec = ap (λ (z : Link). track_spec z.reader) same ∙ spec;
  track = ap (λ (z : Link). track_of z.reader) same ∙ track;
  limit_is = ap (λ (z : Link). z.supply.limit) same ∙ limit_is;
  stands = subst (λ (z : Link). LinkStands tells contents z now []) (sym same) stands;
}

pub feeds-then : {S : Type 0} (tells : Bool) (contents : S → Contents) (ports behind : List RigPort) (p : RigPort)
    (limit : ℕ) (feeds mid now : List Feed) (f : Feed) (at then last : S) → ports ≡ p ∷ behind →
    mid ≡ feeds ++ f ∷ [] → LinkOpened tells contents p limit f at then →
    ((done : List RigPort) (start : Contents) → FeedsOpened tells contents done limit mid start then →
    FeedsOpened tells contents (done ++ behind) limit now start last) →
    (done : List RigPort) (start : Contents) → FeedsOpened tells contents done limit feeds start at →
    FeedsOpened tells contents (done ++ ports) limit now start last
feeds-then tells contents ports behind p limit feeds mid now f at then last all pushed one rest done start was =
    subst (λ (ps : List RigPort). FeedsOpened tells contents ps limit now start last)
    (append_assoc done (p ∷ []) behind ∙ ap (λ (ps : List RigPort). done ++ ps) (sym all))
    (rest (done ++ p ∷ []) start
    (subst (λ (fs : List Feed). FeedsOpened tells contents (done ++ p ∷ []) limit fs start then) (sym pushed)
    (feeds-push tells contents done p limit feeds f start at then was one)))

pub feeds-then_part : {S : Type 0} (tells : Bool) (contents : S → Contents) (ports behind : List RigPort)
    (p : RigPort) (limit : ℕ) (feeds mid : List Feed) (f : Feed) (at then last : S) → ports ≡ p ∷ behind →
    mid ≡ feeds ++ f ∷ [] → LinkOpened tells contents p limit f at then →
    ((done : List RigPort) (start : Contents) → FeedsOpened tells contents done limit mid start then → IsTrue tells →
    OpensPart start (contents last) (to_read (done ++ behind))) →
    (done : List RigPort) (start : Contents) → FeedsOpened tells contents done limit feeds start at → IsTrue tells →
    OpensPart start (contents last) (to_read (done ++ ports))
feeds-then_part tells contents ports behind p limit feeds mid f at then last all pushed one rest done start was t =
    subst (λ (ps : List RigPort). OpensPart start (contents last) (to_read ps))
    (append_assoc done (p ∷ []) behind ∙ ap (λ (ps : List RigPort). done ++ ps) (sym all))
    (rest (done ++ p ∷ []) start
    (subst (λ (fs : List Feed). FeedsOpened tells contents (done ++ p ∷ []) limit fs start then) (sym pushed)
    (feeds-push tells contents done p limit feeds f start at then was one)) t)

pub outs-then : {S : Type 0} (tells : Bool) (contents : S → Contents) (ports behind : List RigPort) (p : RigPort)
    (outs mid now : List Outlet) (o : Outlet) (at then last : S) → ports ≡ p ∷ behind → mid ≡ outs ++ o ∷ [] →
    OutCreated tells contents p o at then →
    ((done : List RigPort) (start : Contents) → OutsCreated tells contents done mid start then →
    OutsCreated tells contents (done ++ behind) now start last) →
    (done : List RigPort) (start : Contents) → OutsCreated tells contents done outs start at →
    OutsCreated tells contents (done ++ ports) now start last
outs-then tells contents ports behind p outs mid now o at then last all pushed one rest done start was =
    subst (λ (ps : List RigPort). OutsCreated tells contents ps now start last)
    (append_assoc done (p ∷ []) behind ∙ ap (λ (ps : List RigPort). done ++ ps) (sym all))
    (rest (done ++ p ∷ []) start
    (subst (λ (os : List Outlet). OutsCreated tells contents (done ++ p ∷ []) os start then) (sym pushed)
    (outs-push tells contents done p outs o start at then was one)))

pub outs-then_part : {S : Type 0} (tells : Bool) (contents : S → Contents) (ports behind : List RigPort)
    (p : RigPort) (outs mid : List Outlet) (o : Outlet) (at then last : S) → ports ≡ p ∷ behind →
    mid ≡ outs ++ o ∷ [] → OutCreated tells contents p o at then →
    ((done : List RigPort) (start : Contents) → OutsCreated tells contents done mid start then → IsTrue tells →
    CreatesPart start (contents last) (to_write (done ++ behind))) →
    (done : List RigPort) (start : Contents) → OutsCreated tells contents done outs start at → IsTrue tells →
    CreatesPart start (contents last) (to_write (done ++ ports))
outs-then_part tells contents ports behind p outs mid o at then last all pushed one rest done start was t =
    subst (λ (ps : List RigPort). CreatesPart start (contents last) (to_write ps))
    (append_assoc done (p ∷ []) behind ∙ ap (λ (ps : List RigPort). done ++ ps) (sym all))
    (rest (done ++ p ∷ []) start
    (subst (λ (os : List Outlet). OutsCreated tells contents (done ++ p ∷ []) os start then) (sym pushed)
    (outs-push tells contents done p outs o start at then was one)) t)
