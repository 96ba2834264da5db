-- What a link has given, mark by mark.
use Rattle.std.proofs.Common.{◌≡◌, ◌≢◌, ◌≤◌, ◌<◌, ◌+◌, ℕ, zero, suc, Bool, true, false, not, List, [], ◌∷◌, ◌++◌, take}
use Rattle.std.proofs.Common.{drop, refl, sym, ◌∙◌, ap, subst, arith, append_assoc, append-nil, IsTrue, Option, Some, None}
use Rattle.std.proofs.Common.{length}
use Rattle.std.proofs.lemmas.List.{take-append-drop}
use Rattle.mb_message.specs.Front.{IsFront}
use Rattle.mb_message.specs.Signs.{Sign, sign_of, suits_sign}
use Rattle.mb_message.specs.declared.mark.Mark.{Mark}
use Rattle.mb_stream.specs.Puts.{Put, At, puts_at, signs_in}
use Rattle.mb_stream.specs.Standing.{is_open, suited}
use Rattle.mb_stream.proofs.StandingLemmas.{next}
use Rattle.mb_outside.specs.Contents.{Contents, SameAt, is_readable}
use Rattle.mb_outside.specs.ContentsLaws.{with_entry-here}
use Rattle.mb_carrier.specs.Port.{ReaderStands}
use Rattle.mb_carrier.specs.declared.spec.Spec.{Spec}
use Rattle.mb_frames.specs.Tapes.{tape_fault}
use Rattle.mb_track.specs.Track.{track_end, track_marks, track_marks_so_far, track_whole}
use Rattle.mb_track.specs.TrackReading.{track_moment, track_of, track_spec}
use Rattle.mb_track.proofs.EndLemmas.{all-closed}
use Rattle.mb_track.proofs.FrontLemmas.{all-suit, told-front, told-suits}
use Rattle.mb_track.proofs.GrowLemmas.{track-grows}
use Rattle.mb_rig.specs.Supply.{IsCounted, front_of}
use Rattle.mb_rig.specs.Link.{LinkReads, LinkStands, TookFrom}
use Rattle.mb_rig.specs.Feed.{FeedFront, FeedGave, FeedStands, FeedTurned, IsSameLink, key_by, waiting_by}
use Rattle.mb_rig.specs.Bay.{BayWrote}
use Rattle.mb_rig.specs.Running.{RunTouched}
use Rattle.mb_rig.specs.Merging.Lines.{Key}
use Rattle.mb_rig.specs.declared.feed.Feed.{Feed}
use Rattle.mb_rig.specs.declared.link.Link.{Link}
use Rattle.mb_rig.proofs.LinkLemmas.{took-none}
use Rattle.mb_rig.proofs.Merging.Given.{signs-push}
use Rattle.mb_rig.proofs.Merging.Lateness.{none≢some, some_same}

-- the marks that a link told

reads-front : (l : Link) (bytes : List ℕ) (told : List Put) → LinkReads l bytes told →
    IsFront told (track_marks_so_far (track_spec l.reader) (track_of l.reader) (bytes ++ front_of l.supply))
reads-front l bytes told reads =
    told-front (track_spec l.reader) (ReaderStands l.reader.reader) l.reader.tape l.reader.track l.reader.own
    l.reader.moment bytes (front_of l.supply) told reads.stands

pub told-suited : {S : Type 0} (tells : Bool) (contents : S → Contents) (l : Link) (at : S) (told : List Put) →
    LinkStands tells contents l at told → suited (signs_in told) ≡ true
told-suited tells contents l at told st = by_over l.over refl where
  by_over : (o : Bool) → l.over ≡ o → suited (signs_in told) ≡ true
  by_over false e =
      told-suits (track_spec l.reader) (track_of l.reader) (st.bytes ++ front_of l.supply) told
      (reads-front l st.bytes told (st.reads e))
  by_over true e =
      ap (λ (ps : List Put). suited (signs_in ps)) (st.ends e).all
      ∙ all-suit (track_spec l.reader) (track_of l.reader) st.bytes

pub mark-suits : {S : Type 0} (tells : Bool) (contents : S → Contents) (l : Link) (at : S) (given : List Put)
    (moment : ℕ) (sign : Sign) → LinkStands tells contents l at (given ++ At moment sign ∷ []) →
    suits_sign (is_open (signs_in given)) sign ≡ true
mark-suits tells contents l at given moment sign st =
    next (signs_in given) sign []
    (ap suited (sym (signs-push given moment sign))
    ∙ told-suited tells contents l at (given ++ At moment sign ∷ []) st)

pub told-closed : {S : Type 0} (tells : Bool) (contents : S → Contents) (l : Link) (at : S) (told : List Put) →
    l.over ≡ true → LinkStands tells contents l at told → is_open (signs_in told) ≡ false
told-closed tells contents l at told over st =
    ap (λ (ps : List Put). is_open (signs_in ps)) (st.ends over).all
    ∙ all-closed (track_spec l.reader) (track_of l.reader) st.bytes

-- a front of a front
front-then : (xs ys zs : List Put) → IsFront xs ys → IsFront ys zs → IsFront xs zs
front-then xs ys zs first second = (
  first.0 ++ second.0,
  second.1 ∙ (ap (λ (ps : List Put). ps ++ second.0) first.1
      ∙ append_assoc xs first.0 second.0),
)

take-nil : (n : ℕ) → take {A = ℕ} n [] ≡ []
take-nil zero = refl
take-nil (suc n) = refl

-- what a link told is a front of the marks of all that was taken off its tape, and of more
pub told-front-of : {S : Type 0} (tells : Bool) (contents : S → Contents) (l : Link) (at : S) (told : List Put)
    (now : Contents) → LinkStands tells contents l at told → IsTrue tells →
    TookFrom l.supply.handle (contents at) now →
    IsFront told (track_marks (track_spec l.reader) (track_of l.reader) (now.taken l.supply.handle))
told-front-of tells contents l at told now st t took = by_over l.over refl where
  s : Spec
  s = track_spec l.reader

  more : List ℕ
  more = take took.many ((contents at).left l.supply.handle)

  taken : now.taken l.supply.handle ≡ (st.bytes ++ l.supply.ahead) ++ more
  taken =
      ap (λ (z : Contents). z.taken l.supply.handle) took.contents
      ∙ (with_entry-here (contents at).taken l.supply.handle ((contents at).taken l.supply.handle ++ more)
      ∙ ap (λ (xs : List ℕ). xs ++ more) (st.lent t).taken)

  by_over : (o : Bool) → l.over ≡ o → IsFront told (track_marks s (track_of l.reader) (now.taken l.supply.handle))
  by_over false e =
      let near = st.bytes ++ front_of l.supply in
      let rest = drop 1 l.supply.ahead ++ more in
      let all : near ++ rest ≡ now.taken l.supply.handle =
      sym (append_assoc near (drop 1 l.supply.ahead) more)
      ∙ (ap (λ (xs : List ℕ). xs ++ more) (append_assoc st.bytes (front_of l.supply) (drop 1 l.supply.ahead)
      ∙ ap (λ (xs : List ℕ). st.bytes ++ xs) (take-append-drop 1 l.supply.ahead)) ∙ sym taken) in
      front-then told _ _ (reads-front l st.bytes told (st.reads e))
      (front-then _ _ _ (track-grows s (track_of l.reader) near rest)
      (subst (λ (xs : List ℕ). IsFront (track_marks_so_far s (track_of l.reader) (near ++ rest))
      (track_marks s (track_of l.reader) xs)) all (track_end s (track_of l.reader) (near ++ rest), refl)))
  by_over true e =
      let none : more ≡ [] = ap (take took.many) (st.nothing_left e t) ∙ take-nil took.many in
      let all : now.taken l.supply.handle ≡ st.bytes =
      taken ∙ (ap (λ (xs : List ℕ). (st.bytes ++ l.supply.ahead) ++ xs) none
      ∙ (append-nil (st.bytes ++ l.supply.ahead) ∙ (ap (λ (xs : List ℕ). st.bytes ++ xs) (st.ends e).used
      ∙ append-nil st.bytes))) in
      ([], ap (track_marks s (track_of l.reader)) all ∙ (sym (st.ends e).all ∙ sym (append-nil told)))

-- a desk that changed elsewhere

pub link-kept : {S : Type 0} (tells : Bool) (contents : S → Contents) (l : Link) (at now : S) (told : List Put) →
    (IsTrue tells → (contents now).left l.supply.handle ≡ (contents at).left l.supply.handle) →
    (IsTrue tells → (contents now).taken l.supply.handle ≡ (contents at).taken l.supply.handle) →
    (IsTrue tells → is_readable (contents now) l.supply.handle ≡ is_readable (contents at) l.supply.handle) →
    LinkStands tells contents l at told → LinkStands tells contents l now told
link-kept tells contents l at now told left taken readable st = record {
  bytes = st.bytes;
  lent = λ t. record { readable = readable t ∙ (st.lent t).readable; taken = taken t ∙ (st.lent t).taken };
  counted = λ t. record { count = ap length (taken t) ∙ (st.counted t).count; within = (st.counted t).within };
  most = st.most;
  reads = st.reads;
  ends = st.ends;
  nothing_left = λ over t. left t ∙ st.nothing_left over t;
}

pub feed-kept : {S : Type 0} (tells : Bool) (contents : S → Contents) (x : ℕ) (f : Feed) (at now : S)
    (present : Option Key) (given : List Put) →
    ((told : List Put) → LinkStands tells contents f.link at told → LinkStands tells contents f.link now told) →
    FeedStands tells contents x f at present given → FeedStands tells contents x f now present given
feed-kept tells contents x f at now present given kept st = record {
  told = st.told;
  stands = kept st.told st.stands;
  given_is = st.given_is;
  present_is = st.present_is;
  moment = st.moment;
  over = st.over;
}

readable-by : (c d : Contents) (h : ℕ) → d.given ≡ c.given → is_readable d h ≡ is_readable c h
readable-by c d h e = ap (λ g. is_readable (record c { given = g }) h) e

-- standard output and outs were written to
pub feed-wrote : {S : Type 0} (tells : Bool) (contents : S → Contents) (x first count : ℕ) (f : Feed) (at now : S)
    (present : Option Key) (given : List Put) → BayWrote tells contents first count at now →
    FeedStands tells contents x f at present given → FeedStands tells contents x f now present given
feed-wrote tells contents x first count f at now present given wrote st =
    feed-kept tells contents x f at now present given
    (λ told. link-kept tells contents f.link at now told
    (λ t. ap (λ (g : ℕ → List ℕ). g f.link.supply.handle) (wrote.left t))
    (λ t. ap (λ (g : ℕ → List ℕ). g f.link.supply.handle) (wrote.taken t))
    (λ t. readable-by (contents at) (contents now) f.link.supply.handle (wrote.given t))) st

-- others of a run stepped
pub link-touched : {S : Type 0} (tells : Bool) (contents : S → Contents) (base count first outs : ℕ) (l : Link)
    (at now : S) (told : List Put) →
    (IsTrue tells → base ≤ l.supply.handle → l.supply.handle < base + count → ⊥) →
    RunTouched tells contents base count first outs at now →
    LinkStands tells contents l at told → LinkStands tells contents l now told
link-touched tells contents base count first outs l at now told apart touched st =
    link-kept tells contents l at now told (λ t. touched.left t l.supply.handle (apart t))
    (λ t. touched.taken t l.supply.handle (apart t))
    (λ t. readable-by (contents at) (contents now) l.supply.handle (touched.given t)) st

pub feed-touched : {S : Type 0} (tells : Bool) (contents : S → Contents) (x base count first outs : ℕ) (f : Feed)
    (at now : S) (present : Option Key) (given : List Put) →
    (IsTrue tells → base ≤ f.link.supply.handle → f.link.supply.handle < base + count → ⊥) →
    RunTouched tells contents base count first outs at now →
    FeedStands tells contents x f at present given → FeedStands tells contents x f now present given
feed-touched tells contents x base count first outs f at now present given apart touched st =
    feed-kept tells contents x f at now present given
    (λ told. link-touched tells contents base count first outs f.link at now told apart touched) st

-- a file was opened or created, or another handle was read or written to
pub link-same : {S : Type 0} (tells : Bool) (contents : S → Contents) (l : Link) (at now : S) (told : List Put) →
    (IsTrue tells → SameAt (contents at) (contents now) l.supply.handle) →
    LinkStands tells contents l at told → LinkStands tells contents l now told
link-same tells contents l at now told same st =
    link-kept tells contents l at now told (λ t. (same t).left) (λ t. (same t).taken) (λ t. (same t).readable) st

pub same-then : (a b c : Link) → IsSameLink a b → IsSameLink b c → IsSameLink a c
same-then a b c first second = record {
  handle = second.handle ∙ first.handle;
  limit = second.limit ∙ first.limit;
  spec = second.spec ∙ first.spec;
  track = second.track ∙ first.track;
}

-- what was given is a front of the marks of what is taken by now
pub feed-front : {S : Type 0} (tells : Bool) (contents : S → Contents) (x : ℕ) (f g : Feed) (at now : S)
    (present : Option Key) (given : List Put) → IsSameLink f.link g.link →
    (IsTrue tells → TookFrom f.link.supply.handle (contents at) (contents now)) →
    (IsTrue tells → IsCounted g.link.supply (contents now)) →
    FeedStands tells contents x f at present given → FeedFront tells contents g now given
feed-front tells contents x f g at now present given same took counted st = record {
  front = λ t.
      let told = told-front-of tells contents f.link at st.told (contents now) st.stands t (took t) in
      let all : track_marks (track_spec f.link.reader) (track_of f.link.reader)
      ((contents now).taken f.link.supply.handle)
      ≡ track_marks (track_spec g.link.reader) (track_of g.link.reader)
      ((contents now).taken g.link.supply.handle) =
      ap (λ (s : Spec). track_marks s (track_of f.link.reader) ((contents now).taken f.link.supply.handle))
      (sym same.spec)
      ∙ (ap (λ (n : ℕ). track_marks (track_spec g.link.reader) n ((contents now).taken f.link.supply.handle))
      (sym same.track)
      ∙ ap (λ (h : ℕ). track_marks (track_spec g.link.reader) (track_of g.link.reader) ((contents now).taken h))
      (sym same.handle)) in
      subst (λ (ps : List Put). IsFront given ps) all
      (front-then given st.told _ (waiting_by f.record f.waiting, st.given_is) told);
  counted = counted;
}

pub feed-stopped : {S : Type 0} (tells : Bool) (contents : S → Contents) (x : ℕ) (f : Feed) (at : S)
    (present : Option Key) (given : List Put) → FeedStands tells contents x f at present given →
    FeedFront tells contents f at given
feed-stopped tells contents x f at present given st =
    feed-front tells contents x f f at at present given
    (record { handle = refl; limit = refl; spec = refl; track = refl }) (λ t. took-none _ _ _ refl)
    st.stands.counted st

-- a mark is given

waits-not : (moment : Option ℕ) (waiting : Option Mark) → waiting ≡ None → waiting_by moment waiting ≡ []
waits-not None waiting e = refl
waits-not (Some moment) waiting e = ap (waiting_by (Some moment)) e

pub none-waits : {S : Type 0} (tells : Bool) (contents : S → Contents) (x : ℕ) (f : Feed) (at : S)
    (present : Option Key) (given : List Put) → f.waiting ≡ None →
    (st : FeedStands tells contents x f at present given) → st.told ≡ given
none-waits tells contents x f at present given none st =
    st.given_is ∙ (ap (λ (ps : List Put). given ++ ps) (waits-not f.record f.waiting none) ∙ append-nil given)

-- the one that waited
pub gave-waiting : {S : Type 0} (tells : Bool) (contents : S → Contents) (x : ℕ) (l : Link) (moment_at : Option ℕ)
    (waiting : Option Mark) (at : S) (present : Option Key) (given : List Put) (moment : ℕ) (mark : Mark) →
    waiting ≡ Some mark → moment_at ≡ Some moment →
    FeedStands tells contents x (record { link = l; «record» = moment_at; waiting = waiting }) at present given →
    FeedGave tells contents x (record { link = l; «record» = moment_at; waiting = waiting })
    (record { link = l; «record» = moment_at; waiting = None }) at present given moment mark
gave-waiting tells contents x l moment_at waiting at present given moment mark waits here st =
    let told : st.told ≡ given ++ At moment (sign_of mark) ∷ [] =
    st.given_is ∙ (ap (λ (o : Option ℕ). given ++ waiting_by o waiting) here
    ∙ ap (λ (o : Option Mark). given ++ waiting_by (Some moment) o) waits) in
    record {
      stands = record {
        told = st.told;
        stands = st.stands;
        given_is = told ∙ (sym (append-nil _)
            ∙ ap (λ (ps : List Put). (given ++ At moment (sign_of mark) ∷ []) ++ ps)
            (sym (waits-not moment_at None refl)));
        present_is = st.present_is;
        moment = st.moment;
        over = st.over;
      };
      record_is = refl;
      none = refl;
      suits =
          mark-suits tells contents l at given moment (sign_of mark)
          (subst (λ (ps : List Put). LinkStands tells contents l at ps) told st.stands);
    }

-- the next one of the record under way
pub gave-next : {S : Type 0} (tells : Bool) (contents : S → Contents) (x : ℕ) (f g : Feed) (at now : S)
    (present : Option Key) (given : List Put) (moment : ℕ) (mark : Mark) → f.waiting ≡ None →
    f.record ≡ Some moment → g.record ≡ f.record → g.waiting ≡ None →
    track_moment g.link.reader ≡ track_moment f.link.reader →
    ((told : List Put) → LinkStands tells contents f.link at told →
    LinkStands tells contents g.link now (told ++ puts_at (track_moment g.link.reader) (sign_of mark ∷ []))) →
    FeedStands tells contents x f at present given → FeedGave tells contents x f g now present given moment mark
gave-next tells contents x f g at now present given moment mark none here same still kept goes st =
    let told = none-waits tells contents x f at present given none st in
    let at_moment : track_moment g.link.reader ≡ moment = kept ∙ st.moment moment here in
    let stands : LinkStands tells contents g.link now (given ++ At moment (sign_of mark) ∷ []) =
    subst (λ (n : ℕ). LinkStands tells contents g.link now (given ++ At n (sign_of mark) ∷ [])) at_moment
    (subst (λ (ps : List Put). LinkStands tells contents g.link now
    (ps ++ At (track_moment g.link.reader) (sign_of mark) ∷ [])) told (goes st.told st.stands)) in
    record {
      stands = record {
        told = given ++ At moment (sign_of mark) ∷ [];
        stands = stands;
        given_is = sym (append-nil _)
            ∙ ap (λ (ps : List Put). (given ++ At moment (sign_of mark) ∷ []) ++ ps)
            (sym (waits-not g.record g.waiting still));
        present_is = st.present_is ∙ ap (key_by x) (sym same);
        moment = λ n e. kept ∙ st.moment n (sym same ∙ e);
        over = λ over. absurd (none≢some moment (sym over ∙ (same ∙ here)));
      };
      record_is = same;
      none = still;
      suits = mark-suits tells contents g.link now given moment (sign_of mark) stands;
    }

-- its record is used up

pub turned-next : {S : Type 0} (tells : Bool) (contents : S → Contents) (x : ℕ) (f g : Feed) (at now : S)
    (present : Option Key) (given : List Put) (moment next : ℕ) → f.waiting ≡ None → f.record ≡ Some moment →
    g.record ≡ Some next → g.waiting ≡ None → next ≡ track_moment g.link.reader →
    ((told : List Put) → LinkStands tells contents f.link at told →
    track_moment f.link.reader ≤ track_moment g.link.reader) →
    ((told : List Put) → LinkStands tells contents f.link at told →
    LinkStands tells contents g.link now (told ++ [])) →
    FeedStands tells contents x f at present given → FeedTurned tells contents x g now given moment
turned-next tells contents x f g at now present given moment next none here there still begins rises goes st = record {
  stands = record {
    told = st.told ++ [];
    stands = goes st.told st.stands;
    given_is = append-nil st.told ∙ (none-waits tells contents x f at present given none st ∙ (sym (append-nil given)
        ∙ ap (λ (ps : List Put). given ++ ps) (sym (waits-not g.record g.waiting still))));
    present_is = refl;
    moment = λ n e. sym begins ∙ some_same (sym there ∙ e);
    over = λ over. absurd (none≢some next (sym over ∙ there));
  };
  none = still;
  later = λ n e. omega (
    arith,
    rises st.told st.stands,
    st.moment moment here,
    begins,
    some_same (sym there ∙ e),
  );
  closed = λ over. absurd (none≢some next (sym over ∙ there));
}

pub turned-over : {S : Type 0} (tells : Bool) (contents : S → Contents) (x : ℕ) (f g : Feed) (at now : S)
    (present : Option Key) (given : List Put) (moment : ℕ) → f.waiting ≡ None → g.record ≡ None →
    g.waiting ≡ None → g.link.over ≡ true →
    ((told : List Put) → LinkStands tells contents f.link at told →
    LinkStands tells contents g.link now (told ++ [])) →
    FeedStands tells contents x f at present given → FeedTurned tells contents x g now given moment
turned-over tells contents x f g at now present given moment none there still over goes st =
    let told : st.told ++ [] ≡ given = append-nil st.told ∙ none-waits tells contents x f at present given none st in
    record {
      stands = record {
        told = st.told ++ [];
        stands = goes st.told st.stands;
        given_is = told ∙ (sym (append-nil given)
            ∙ ap (λ (ps : List Put). given ++ ps) (sym (waits-not g.record g.waiting still)));
        present_is = refl;
        moment = λ n e. absurd (none≢some n (sym there ∙ e));
        over = λ _. over;
      };
      none = still;
      later = λ n e. absurd (none≢some n (sym there ∙ e));
      closed = λ _.
          ap (λ (ps : List Put). is_open (signs_in ps)) (sym told)
          ∙ told-closed tells contents g.link now (st.told ++ []) over (goes st.told st.stands);
    }

-- it has no record more: all marks of its tape were given, and nothing of it is left
pub record FeedIsOver (c : Contents) (f : Feed) (given : List Put) : Type 0 where
  pub all : given ≡ track_marks (track_spec f.link.reader) (track_of f.link.reader) (c.taken f.link.supply.handle)
  pub left : c.left f.link.supply.handle ≡ []
  pub right : tape_fault (c.taken f.link.supply.handle) ≡ None
  pub below : length (c.taken f.link.supply.handle) < f.link.supply.limit
  pub cut : f.link.cut ≡ not (track_whole (track_spec f.link.reader) (track_of f.link.reader)
      (c.taken f.link.supply.handle))

pub feed-over : {S : Type 0} (tells : Bool) (contents : S → Contents) (x : ℕ) (f : Feed) (at : S)
    (present : Option Key) (given : List Put) → f.record ≡ None → IsTrue tells →
    FeedStands tells contents x f at present given → FeedIsOver (contents at) f given
feed-over tells contents x f at present given none t st =
    let l = f.link in
    let over = st.over none in
    let ends = st.stands.ends over in
    let taken : (contents at).taken l.supply.handle ≡ st.stands.bytes =
    (st.stands.lent t).taken ∙ (ap (λ (xs : List ℕ). st.stands.bytes ++ xs) ends.used ∙ append-nil st.stands.bytes) in
    let told : st.told ≡ given =
    st.given_is ∙ (ap (λ (o : Option ℕ). given ++ waiting_by o f.waiting) none ∙ append-nil given) in
    record {
      all =
          sym told
          ∙ (ends.all ∙ ap (track_marks (track_spec l.reader) (track_of l.reader)) (sym taken));
      left = st.stands.nothing_left over t;
      right = ap tape_fault taken ∙ ends.right;
      below = omega (arith, (st.stands.counted t).count, ends.below);
      cut =
          ends.cut
          ∙ ap (λ (xs : List ℕ). not (track_whole (track_spec l.reader) (track_of l.reader) xs)) (sym taken);
    }
