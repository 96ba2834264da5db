-- What a link stands for, step by step.
use Rattle.std.proofs.Common.{◌≡◌, ◌≤◌, ◌+◌, ◌-◌, ◌^◌, ℕ, Bool, true, false, not, List, [], ◌∷◌, ◌++◌, length}
use Rattle.std.proofs.Common.{take, drop, refl, ◌*◌, ◌<◌, ◌≢◌, IfOk, OnSome, length-drop, length-take}
use Rattle.std.specs.Prelude.{if◌then◌else◌}
use Rattle.std.proofs.lemmas.Bool.{true≢false}
use Rattle.std.proofs.Common.{sym, ◌∙◌, ap, subst, arith, append_assoc, length-append, IsTrue, Option, Some, None}
use Rattle.std.proofs.Common.{Result}
use Rattle.std.proofs.Common.{Ok, Err}
use Rattle.std.proofs.lemmas.List.{append-nil, length-map, take-append-drop}
use Rattle.mb_message.specs.Signs.{Sign}
use Rattle.mb_message.specs.Front.{IsFront}
use Rattle.mb_stream.specs.Puts.{Put, At, puts_at}
use Rattle.mb_stream.specs.Groups.{is_sysex, last_of}
use Rattle.mb_stream.specs.Told.{at_end, begun_at, truncated_end, broken_end}
use Rattle.mb_stream.specs.Reading.{told_signs}
use Rattle.mb_outside.specs.Contents.{Contents, after_read, is_readable}
use Rattle.mb_outside.specs.ContentsLaws.{after_read-none, after_read-twice, with_entry-here}
use Rattle.mb_frames.specs.Tapes.{tape_fault}
use Rattle.mb_frames.specs.declared.tape.TapeFault.{TapeFault}
use Rattle.mb_frames.proofs.TapeStepLemmas.{owed-little}
use Rattle.mb_carrier.specs.Carrier.{payload_of}
use Rattle.mb_carrier.specs.declared.spec.Spec.{Spec}
use Rattle.mb_track.specs.Track.{last_record_moment, recording, track_end, track_marks, track_marks_so_far}
use Rattle.mb_track.specs.Track.{track_records, track_whole}
use Rattle.mb_track.specs.TrackReading.{TrackGoes, TrackStands, TrackTold, track_moment, track_of, track_offset}
use Rattle.mb_track.specs.TrackReading.{track_owed, track_spec}
use Rattle.mb_track.specs.declared.track.TrackReader.{TrackReader}
use Rattle.mb_track.proofs.StandLemmas.{own-owed, stands-more}
use Rattle.mb_rig.specs.Heard.{IfNothing, heard_fault, heard_signs}
use Rattle.mb_rig.specs.Supply.{Drew, IsCounted, SupplyValue, front_of}
use Rattle.mb_rig.specs.Link.{LinkHeard, LinkReads, LinkRests, LinkStands, TookFrom, link_owed, link_work}
use Rattle.mb_rig.specs.declared.heard.Heard.{Heard}
use Rattle.mb_rig.specs.declared.link.Link.{Link}

-- an end makes one mark known at most
few-at_end : (begun : Option ℕ) (sysex : Bool) → length (told_signs (truncated_end begun ++ broken_end sysex)) ≤ 1
few-at_end None true = omega arith
few-at_end None false = omega arith
few-at_end (Some at) true = omega arith
few-at_end (Some at) false = omega arith

pub few-track_end : (s : Spec) (track : ℕ) (tape : List ℕ) → length (track_end s track tape) ≤ 1
few-track_end s track tape =
    let g = last_of (payload_of s (recording track (track_records tape))) in
    omega (
      arith,
      length-map (told_signs (at_end g)) (At (last_record_moment (track_records tape))),
      few-at_end (begun_at g) (is_sysex g),
    )

-- what stands next behind a piece of one byte at most that is left
stands-next : (r : TrackReader) (taken left behind : List ℕ) (told : List Put) → length left ≤ 1 →
    TrackStands r taken left told → TrackStands r taken (take 1 (left ++ behind)) told
stands-next r taken [] behind told few st = stands-more r taken (take 1 behind) told st
stands-next r taken (x ∷ []) behind told few st = st
stands-next r taken (x ∷ y ∷ ys) behind told few st = absurd (omega arith)

drop-front : (xs ys : List ℕ) → drop (length xs) (xs ++ ys) ≡ ys
drop-front [] ys = refl
drop-front (x ∷ xs) ys = drop-front xs ys

front-few : (xs : List ℕ) → length (take 1 xs) ≤ 1
front-few [] = omega arith
front-few (x ∷ xs) = omega arith

-- one step of hearing, which takes a front of what is at hand
pub hear-goes : (l m : Link) (front left : List ℕ) (signs : List Sign) (many : ℕ) → front ≡ front_of l.supply →
    TrackGoes l.reader m.reader front left signs → length left ≤ length front → many ≡ length front - length left →
    m.supply ≡ (record l.supply { ahead = drop many l.supply.ahead }) →
    track_offset m.reader + length left ≤ track_offset l.reader + length front →
    (bytes : List ℕ) (told : List Put) → LinkReads l bytes told →
    LinkHeard l m bytes (told ++ puts_at (track_moment m.reader) signs)
hear-goes l m front left signs many is_front goes fewer count supply offset bytes told reads =
    let g = goes bytes told
    (subst (λ (xs : List ℕ). TrackStands l.reader bytes xs told) (sym is_front) reads.stands) in
    let more = g.bytes in
    let behind = drop 1 l.supply.ahead in
    let whole : l.supply.ahead ≡ more ++ (left ++ behind) =
    sym (take-append-drop 1 l.supply.ahead)
    ∙ (ap (λ xs. xs ++ behind) (sym is_front ∙ g.front) ∙ append_assoc more left behind) in
    let taken : many ≡ length more = omega (arith, count, ap length g.front, length-append more left) in
    let rest : m.supply.ahead ≡ left ++ behind =
    ap (λ (s : SupplyValue). s.ahead) supply
    ∙ (ap (λ n. drop n l.supply.ahead) taken ∙ (ap (drop (length more)) whole
    ∙ drop-front more (left ++ behind))) in
    let few : length left ≤ 1 = omega (arith, fewer, ap length is_front, front-few l.supply.ahead) in
    let all : l.supply.ahead ≡ more ++ m.supply.ahead = whole ∙ ap (λ xs. more ++ xs) (sym rest) in
    let same : m.supply.count ≡ l.supply.count = ap (λ (s : SupplyValue). s.count) supply in
    record {
      more = more;
      front = all;
      reads =
          record {
            count = omega (
              arith,
              same,
              reads.count,
              ap length all,
              length-append more m.supply.ahead,
              length-append bytes more,
            );
            few = omega (arith, same, reads.few);
            offset = omega (
              arith,
              offset,
              reads.offset,
              ap length g.front,
              length-append more left,
              length-append bytes more,
            );
            stands =
                subst (λ (xs : List ℕ). TrackStands m.reader (bytes ++ more) (take 1 xs)
                (told ++ puts_at (track_moment m.reader) signs)) (sym rest)
                (stands-next m.reader (bytes ++ more) left behind _ few g.stands);
          };
    }

-- where nothing is heard
pub nothing-weaker : (r : Result (Option Heard) TapeFault) (P Q : Type 0) → (P → Q) → IfNothing r P → IfNothing r Q
nothing-weaker (Ok None) P Q f p = f p
nothing-weaker (Ok (Some h)) P Q f p = tt
nothing-weaker (Err f) P Q g p = g p

pub hear-rests : (l m : Link) (front : List ℕ) (fault : Option TapeFault) → front ≡ front_of l.supply →
    track_spec m.reader ≡ track_spec l.reader → track_of m.reader ≡ track_of l.reader →
    ((taken : List ℕ) (told : List Put) → TrackStands l.reader taken front told →
    TrackTold m.reader (taken ++ front)
    × (told ≡ track_marks_so_far (track_spec l.reader) (track_of l.reader) (taken ++ front))
    × (tape_fault (taken ++ front) ≡ fault)) →
    (bytes : List ℕ) (told : List Put) → LinkReads l bytes told →
    LinkRests m (bytes ++ front_of l.supply) told fault
hear-rests l m front fault is_front spec track over bytes told reads =
    let o = over bytes told
    (subst (λ (xs : List ℕ). TrackStands l.reader bytes xs told) (sym is_front) reads.stands) in
    let all : bytes ++ front ≡ bytes ++ front_of l.supply = ap (λ xs. bytes ++ xs) is_front in
    record {
      tells_all = subst (TrackTold m.reader) all o.0;
      so_far =
          o.1
          ∙ (ap (λ (s : Spec). track_marks_so_far s (track_of l.reader) (bytes ++ front)) (sym spec)
          ∙ (ap (λ (n : ℕ). track_marks_so_far (track_spec m.reader) n (bytes ++ front)) (sym track)
          ∙ ap (track_marks_so_far (track_spec m.reader) (track_of m.reader)) all));
      fault_is = sym (ap tape_fault all) ∙ o.2;
    }

-- the whole link

pub took-none : (handle : ℕ) (c d : Contents) → d ≡ c → TookFrom handle c d
took-none handle c d e = record { many = 0; contents = e ∙ sym (after_read-none handle c) }

pub took-then : (h k : ℕ) (b c d : Contents) → k ≡ h → TookFrom h b c → TookFrom k c d → TookFrom h b d
took-then h k b c d same first second = record {
  many = first.many + second.many;
  contents =
      second.contents ∙ (ap (λ n. after_read n second.many c) same
      ∙ (ap (after_read h second.many) first.contents ∙ after_read-twice h second.many first.many b));
}

pub drew-took : (handle : ℕ) (c d : Contents) (more : List ℕ) → Drew handle c more d → TookFrom handle c d
drew-took handle c d more drew = record { many = length more; contents = drew.contents }

-- what is counted

pub counted-same : (s n : SupplyValue) (c : Contents) → n.handle ≡ s.handle → n.limit ≡ s.limit → n.count ≡ s.count →
    IsCounted s c → IsCounted n c
counted-same s n c handle limit count is = record {
  count = ap (λ (h : ℕ). length (c.taken h)) handle ∙ (is.count ∙ sym count);
  within = omega (arith, is.within, limit, count);
}

-- it hears marks of what is at hand
pub link-heard : {S : Type 0} (tells : Bool) (contents : S → Contents) (l m : Link) (at : S) (told more : List Put) →
    l.over ≡ false → m.over ≡ l.over → m.supply.handle ≡ l.supply.handle → m.supply.limit ≡ l.supply.limit →
    ((bytes : List ℕ) (told : List Put) → LinkReads l bytes told → LinkHeard l m bytes (told ++ more)) →
    LinkStands tells contents l at told → LinkStands tells contents m at (told ++ more)
link-heard tells contents l m at told more goes_on still handle limit goes st =
    let h = goes st.bytes told (st.reads goes_on) in
    record {
      bytes = st.bytes ++ h.more;
      lent = λ t. record {
        readable = ap (is_readable (contents at)) handle ∙ (st.lent t).readable;
        taken =
            ap (λ n. (contents at).taken n) handle ∙ ((st.lent t).taken ∙ (ap (λ xs. st.bytes ++ xs) h.front
            ∙ sym (append_assoc st.bytes h.more m.supply.ahead)));
      };
      counted = λ t. counted-same l.supply m.supply (contents at) handle limit (omega (
        arith,
        h.reads.count,
        (st.reads goes_on).count,
        ap length h.front,
        length-append h.more m.supply.ahead,
        length-append st.bytes h.more,
      )) (st.counted t);
      most = omega (arith, limit, st.most);
      reads = λ _. h.reads;
      ends = λ over. cc;
      nothing_left = λ over. cc;
    }

-- what a read took stands behind what is handed out
lent-read : (h k : ℕ) (c d : Contents) (bytes ahead more : List ℕ) → ahead ≡ [] → k ≡ h →
    c.taken h ≡ bytes ++ ahead → Drew h c more d → d.taken k ≡ bytes ++ more
lent-read h k c d bytes ahead more used same taken drew =
    ap d.taken same
    ∙ (ap (λ (z : Contents). z.taken h) drew.contents
    ∙ (with_entry-here c.taken h (c.taken h ++ take (length more) (c.left h))
    ∙ (ap (λ xs. c.taken h ++ xs) (sym drew.bytes)
    ∙ ap (λ xs. xs ++ more) (taken ∙ (ap (λ xs. bytes ++ xs) used ∙ append-nil bytes)))))

pub counted-read : (s n : SupplyValue) (c d : Contents) (more : List ℕ) → n.handle ≡ s.handle →
    n.count ≡ s.count + length more → n.count ≤ n.limit → Drew s.handle c more d → IsCounted s c → IsCounted n d
counted-read s n c d more same count within drew is = record {
  count =
      ap length (lent-read s.handle n.handle c d (c.taken s.handle) [] more refl same
      (sym (append-nil (c.taken s.handle))) drew)
      ∙ omega (arith, length-append (c.taken s.handle) more, is.count, count);
  within = within;
}

readable-read : (h k : ℕ) (c d : Contents) (more : List ℕ) → k ≡ h → is_readable c h ≡ true → Drew h c more d →
    is_readable d k ≡ true
readable-read h k c d more same readable drew =
    ap (is_readable d) same ∙ (ap (λ (z : Contents). is_readable z h) drew.contents ∙ readable)

-- it heard nothing
pub link-quiet : {S : Type 0} (tells : Bool) (contents : S → Contents) (l m : Link) (at : S) (told : List Put)
    (r : Result (Option Heard) TapeFault) (moment : ℕ) → heard_signs r ≡ [] →
    l.over ≡ false → m.over ≡ l.over → m.supply.handle ≡ l.supply.handle → m.supply.limit ≡ l.supply.limit →
    ((bytes : List ℕ) (told : List Put) → LinkReads l bytes told →
    LinkHeard l m bytes (told ++ puts_at moment (heard_signs r))) →
    LinkStands tells contents l at told → LinkStands tells contents m at told
link-quiet tells contents l m at told r moment none goes_on still handle limit goes st =
    subst (λ (ps : List Put). LinkStands tells contents m at ps)
    (ap (λ signs. told ++ puts_at moment signs) none ∙ append-nil told)
    (link-heard tells contents l m at told (puts_at moment (heard_signs r)) goes_on still handle limit goes st)

pub rests-none : (l m : Link) (r : Result (Option Heard) TapeFault) → r ≡ Ok None →
    IfNothing r ((bytes : List ℕ) (told : List Put) → LinkReads l bytes told →
    LinkRests m (bytes ++ front_of l.supply) told (heard_fault r)) →
    (bytes : List ℕ) (told : List Put) → LinkReads l bytes told → LinkRests m (bytes ++ front_of l.supply) told None
rests-none l m r e p =
    subst (λ (z : Result (Option Heard) TapeFault). IfNothing z ((bytes : List ℕ) (told : List Put) →
    LinkReads l bytes told → LinkRests m (bytes ++ front_of l.supply) told (heard_fault z))) e p

pub drew-by : (h k : ℕ) (c d : Contents) (more others : List ℕ) → k ≡ h → more ≡ others → Drew k c more d →
    Drew h c others d
drew-by h k c d more others same e drew =
    subst (λ (xs : List ℕ). Drew h c xs d) e (subst (λ (n : ℕ). Drew n c more d) same drew)

-- it reads on
pub link-read : {S : Type 0} (tells : Bool) (contents : S → Contents) (l m : Link) (at next : S) (told : List Put) →
    l.over ≡ false → m.over ≡ l.over → m.reader ≡ l.reader → m.supply.handle ≡ l.supply.handle →
    m.supply.limit ≡ l.supply.limit → l.supply.ahead ≡ [] →
    m.supply.count ≡ l.supply.count + length m.supply.ahead → m.supply.count ≤ m.supply.limit →
    (IsTrue tells → Drew l.supply.handle (contents at) m.supply.ahead (contents next)) →
    LinkStands tells contents l at told → LinkStands tells contents m next told
link-read tells contents l m at next told goes_on still reader handle limit used count within drew st =
    let r = st.reads goes_on in
    let few : m.supply.limit ≤ 2 ^ 40 = omega (arith, limit, st.most) in
    record {
      bytes = st.bytes;
      lent = λ t. record {
        readable = readable-read l.supply.handle m.supply.handle (contents at) (contents next) m.supply.ahead handle
            (st.lent t).readable (drew t);
        taken = lent-read l.supply.handle m.supply.handle (contents at) (contents next) st.bytes l.supply.ahead
            m.supply.ahead used handle (st.lent t).taken (drew t);
      };
      counted = λ t. counted-read l.supply m.supply (contents at) (contents next) m.supply.ahead handle count within
          (drew t) (st.counted t);
      most = few;
      reads = λ _. record {
        count = omega (arith, count, r.count, ap length used);
        few = omega (arith, within, few);
        offset = subst (λ (z : TrackReader). track_offset z ≤ length st.bytes) (sym reader) r.offset;
        stands =
            subst (λ (z : TrackReader). TrackStands z st.bytes (front_of m.supply) told) (sym reader)
            (stands-more l.reader st.bytes (front_of m.supply) told
            (subst (λ (xs : List ℕ). TrackStands l.reader st.bytes (take 1 xs) told) used r.stands));
      };
      ends = λ over. cc;
      nothing_left = λ over. cc;
    }

-- its tape is over
pub link-ends : {S : Type 0} (tells : Bool) (contents : S → Contents) (l m e : Link) (at next : S)
    (told last : List Put) → l.over ≡ false → e.over ≡ true → e.supply.handle ≡ l.supply.handle →
    e.supply.limit ≡ l.supply.limit → e.supply.count ≡ l.supply.count → l.supply.count < l.supply.limit →
    e.supply.ahead ≡ [] → m.supply.ahead ≡ [] →
    l.supply.ahead ≡ front_of l.supply ++ m.supply.ahead →
    track_spec e.reader ≡ track_spec m.reader → track_of e.reader ≡ track_of m.reader →
    ((bytes : List ℕ) (told : List Put) → LinkReads l bytes told →
    LinkRests m (bytes ++ front_of l.supply) told None) →
    ((bytes : List ℕ) → TrackTold m.reader bytes →
    e.cut ≡ not (track_whole (track_spec m.reader) (track_of m.reader) bytes)) →
    ((bytes : List ℕ) → TrackTold m.reader bytes → last ≡ track_end (track_spec m.reader) (track_of m.reader) bytes) →
    (IsTrue tells → Drew l.supply.handle (contents at) [] (contents next)) →
    LinkStands tells contents l at told → LinkStands tells contents e next (told ++ last)
link-ends tells contents l m e at next told last goes_on over handle limit count below none used front spec track rests
    cut ends drew st =
    let bytes = st.bytes ++ front_of l.supply in
    let r = rests st.bytes told (st.reads goes_on) in
    let all : l.supply.ahead ≡ front_of l.supply =
    front ∙ (ap (λ xs. front_of l.supply ++ xs) used ∙ append-nil (front_of l.supply)) in
    record {
      bytes = bytes;
      lent = λ t. record {
        readable = readable-read l.supply.handle e.supply.handle (contents at) (contents next) [] handle
            (st.lent t).readable (drew t);
        taken =
            lent-read l.supply.handle e.supply.handle (contents at) (contents next) bytes [] [] refl handle
            ((st.lent t).taken ∙ (ap (λ xs. st.bytes ++ xs) all ∙ sym (append-nil bytes))) (drew t)
            ∙ ap (λ xs. bytes ++ xs) (sym none);
      };
      counted = λ t. counted-read l.supply e.supply (contents at) (contents next) [] handle (omega (arith, count))
          (omega (arith, count, below, limit)) (drew t) (st.counted t);
      most = omega (arith, limit, st.most);
      reads = λ not_over. cc;
      ends = λ _. record {
        all =
            ap (λ ps. ps ++ last) r.so_far
            ∙ (ap (λ ps. track_marks_so_far (track_spec m.reader) (track_of m.reader) bytes ++ ps)
            (ends bytes r.tells_all)
            ∙ (ap (λ (s : Spec). track_marks s (track_of m.reader) bytes) (sym spec)
            ∙ ap (λ (n : ℕ). track_marks (track_spec e.reader) n bytes) (sym track)));
        right = r.fault_is;
        cut =
            cut bytes r.tells_all
            ∙ (ap (λ (s : Spec). not (track_whole s (track_of m.reader) bytes)) (sym spec)
            ∙ ap (λ (n : ℕ). not (track_whole (track_spec e.reader) n bytes)) (sym track));
        used = none;
        below = omega (arith, count, below, limit);
      };
      nothing_left = λ _ t.
          ap (contents next).left handle
          ∙ (ap (λ (z : Contents). z.left l.supply.handle) (drew t).contents
          ∙ (with_entry-here (contents at).left l.supply.handle (drop 0 ((contents at).left l.supply.handle))
          ∙ (drew t).ends refl));
    }

-- it told all already
pub link-over : {S : Type 0} (tells : Bool) (contents : S → Contents) (l : Link) (at : S) (told : List Put) →
    LinkStands tells contents l at told → LinkStands tells contents l at (told ++ [])
link-over tells contents l at told st = subst (λ (ps : List Put). LinkStands tells contents l at ps)
    (sym (append-nil told)) st

-- its tape is faulty
pub link-faulty : {S : Type 0} (tells : Bool) (contents : S → Contents) (l m : Link) (at : S) (told : List Put)
    (fault : TapeFault) → l.over ≡ false → ((bytes : List ℕ) (told : List Put) → LinkReads l bytes told →
    LinkRests m (bytes ++ front_of l.supply) told (Some fault)) → LinkStands tells contents l at told →
    IsTrue tells → (bytes : List ℕ) × IsFront bytes ((contents at).taken l.supply.handle)
    × (tape_fault bytes ≡ Some fault)
link-faulty tells contents l m at told fault goes_on rests st t =
    let bytes = st.bytes ++ front_of l.supply in (
      bytes,
      (
        drop 1 l.supply.ahead,
        (st.lent t).taken ∙ (ap (λ xs. st.bytes ++ xs) (sym (take-append-drop 1 l.supply.ahead))
            ∙ sym (append_assoc st.bytes (front_of l.supply) (drop 1 l.supply.ahead))),
      ),
      (rests st.bytes told (st.reads goes_on)).fault_is,
    )

-- as much was taken as may be, and it is right
pub link-too_long : {S : Type 0} (tells : Bool) (contents : S → Contents) (l m : Link) (at : S) (told : List Put) →
    l.over ≡ false → m.supply.ahead ≡ [] → l.supply.ahead ≡ front_of l.supply ++ m.supply.ahead →
    m.supply.count ≡ l.supply.count → m.supply.count ≡ m.supply.limit → m.supply.limit ≡ l.supply.limit →
    ((bytes : List ℕ) (told : List Put) → LinkReads l bytes told →
    LinkRests m (bytes ++ front_of l.supply) told None) → LinkStands tells contents l at told →
    IsTrue tells → (length ((contents at).taken l.supply.handle) ≡ l.supply.limit)
    × (tape_fault ((contents at).taken l.supply.handle) ≡ None)
link-too_long tells contents l m at told goes_on used front count full limit rests st t =
    let bytes = st.bytes ++ front_of l.supply in
    let r = st.reads goes_on in
    let all : l.supply.ahead ≡ front_of l.supply =
    front ∙ (ap (λ xs. front_of l.supply ++ xs) used ∙ append-nil (front_of l.supply)) in
    let taken : (contents at).taken l.supply.handle ≡ bytes = (st.lent t).taken ∙ ap (λ xs. st.bytes ++ xs) all in (
      omega (
        arith,
        ap length (st.lent t).taken,
        length-append st.bytes l.supply.ahead,
        r.count,
        count,
        full,
        limit,
      ),
      ap tape_fault taken ∙ (rests st.bytes told r).fault_is,
    )

-- what it may yet hear

pub owed-few : (r : TrackReader) → track_owed r ≤ 7
owed-few r = omega (arith, owed-little r.tape, own-owed r.own r.reader)

pub some-length : (xs : List ℕ) → xs ≢ [] → 1 ≤ length xs
some-length [] some = absurd (some refl)
some-length (x ∷ xs) some = omega arith

-- what is left behind one byte is one byte less
behind-front : (xs ys : List ℕ) → xs ≡ take 1 xs ++ ys → ys ≢ [] → length ys + 1 ≡ length xs
behind-front [] ys e some = absurd (some (sym e))
behind-front (x ∷ xs) ys e some = omega (arith, ap length e)

-- it heard nothing of a byte that it took
pub work-passed : (l m : Link) → m.supply.limit ≡ l.supply.limit → m.supply.count ≡ l.supply.count →
    l.supply.ahead ≡ front_of l.supply ++ m.supply.ahead → m.supply.ahead ≢ [] → link_work m ≤ link_work l
work-passed l m limit count front some =
    let less = behind-front l.supply.ahead m.supply.ahead front some in
    let room : m.supply.limit - m.supply.count ≡ l.supply.limit - l.supply.count = omega (arith, limit, count) in
    omega (arith, room, less, owed-few m.reader)

-- it read on behind all that it had
pub work-read : (l m : Link) (n : SupplyValue) → m.supply.limit ≡ l.supply.limit → m.supply.count ≡ l.supply.count →
    n.limit ≡ m.supply.limit → n.count ≡ m.supply.count + length n.ahead → n.count ≤ n.limit → n.ahead ≢ [] →
    link_work (record m { supply = n }) ≤ link_work l
work-read l m n limit count limit_now count_now within some =
    let many = some-length n.ahead some in
    let room : l.supply.limit - l.supply.count ≡ n.limit - n.count + length n.ahead =
    omega (arith, limit, count, limit_now, count_now, within) in
    omega (arith, room, many, owed-few m.reader)

pub work-heard : (l m : Link) → m.supply.limit ≡ l.supply.limit → m.supply.count ≡ l.supply.count →
    8 * length m.supply.ahead + track_owed m.reader < 8 * length l.supply.ahead + track_owed l.reader →
    link_work m < link_work l
work-heard l m limit count less =
    let room : m.supply.limit - m.supply.count ≡ l.supply.limit - l.supply.count = omega (arith, limit, count) in
    omega (arith, room, less)

-- a step of hearing, of what is at hand
pub hear-owed : (r : Result (Option Heard) TapeFault) (l : Link) (m : SupplyValue) (reader : TrackReader)
    (front left : List ℕ) (many : ℕ) →
    front ≡ front_of l.supply → length left ≤ length front → many ≡ length front - length left →
    m ≡ (record l.supply { ahead = drop many l.supply.ahead }) →
    IfOk r (λ h. OnSome h (8 * length left + track_owed reader < 8 * length front + track_owed l.reader)) →
    IfOk r (λ h. OnSome h (8 * length m.ahead + track_owed reader <
    8 * length l.supply.ahead + track_owed l.reader))
hear-owed (Ok None) l m reader front left many is_front fewer count supply less = tt
hear-owed (Ok (Some h)) l m reader front left many is_front fewer count supply less =
    let ahead : length m.ahead ≡ length l.supply.ahead - many =
    ap (λ (s : SupplyValue). length s.ahead) supply ∙ length-drop many l.supply.ahead in
    let within : length front ≤ length l.supply.ahead =
    omega (arith, ap length is_front, length-take 1 l.supply.ahead) in
    let same : length m.ahead + length front ≡ length l.supply.ahead + length left =
    omega (arith, ahead, within, fewer, count) in
    omega (arith, same, less)
hear-owed (Err f) l m reader front left many is_front fewer count supply less = tt

pub owed-heard : (l m : Link) → l.over ≡ false → m.over ≡ false → link_work m < link_work l → link_owed m < link_owed l
owed-heard l m going still less = falls l.over m.over going still where
  falls : (was now : Bool) → was ≡ false → now ≡ false →
      (if now then 0 else 1 + link_work m) < (if was then 0 else 1 + link_work l)
  falls true now going still = absurd (true≢false going)
  falls false true going still = absurd (true≢false still)
  falls false false going still = omega (arith, less)

pub owed-ended : (l m : Link) → l.over ≡ false → m.over ≡ true → link_owed m < link_owed l
owed-ended l m going ended = falls l.over m.over going ended where
  falls : (was now : Bool) → was ≡ false → now ≡ true →
      (if now then 0 else 1 + link_work m) < (if was then 0 else 1 + link_work l)
  falls true now going ended = absurd (true≢false going)
  falls false true going ended = omega arith
  falls false false going ended = absurd (true≢false (sym ended))
