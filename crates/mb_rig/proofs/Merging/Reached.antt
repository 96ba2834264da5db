-- What holds of a router that calls led to from its opening.
use Rattle.std.proofs.Common.{◌≡◌, ℕ, ◌<◌, Bool, true, false, List, [], ◌∷◌, ◌++◌, length, map}
use Rattle.std.proofs.Common.{get_or, refl, ap, sym, subst, ◌∙◌, arith}
use Rattle.std.specs.Prelude.{not, ◌&&◌, ◌||◌, ◌==◌, if◌then◌else◌}
use Rattle.std.specs.List.{list_any, range_with_len}
use Rattle.std.proofs.lemmas.List.FromFn.{get_or-map-range_with_len}
use Rattle.mb_message.specs.declared.mark.Mark.{Mark}
use Rattle.mb_merge.specs.Links.{Link, Merger, closed_link, link_of, share}
use Rattle.mb_merge.specs.Passing.{next_of, offered_in}
use Rattle.mb_merge.specs.Opening.{outs_of, stands_in}
use Rattle.mb_merge.specs.Calls.{Call, Offer, Next, History, after_call, after_calls, begins, may_offer, taken_in}
use Rattle.mb_merge.specs.Calls.{IsSettled, IsTracked}
use Rattle.mb_merge.proofs.Fits.{Fits}
use Rattle.mb_merge.proofs.Histories.{Keeps, keeps-begins, keeps-call, opened-IsFresh, orderly}
use Rattle.mb_merge.proofs.Tracks.{tracked, as_many}
use Rattle.mb_rig.specs.RigText.{Setup}
use Rattle.mb_rig.specs.Merging.Routed.{Shares}
use Rattle.mb_rig.specs.Merging.Order.{sharing}
use Rattle.mb_rig.specs.Merging.Course.{IsReached, goes_out, start_of}

calls-push : (h : History) (calls : List Call) (call : Call) →
    after_calls h (calls ++ call ∷ []) ≡ after_call (after_calls h calls) call
calls-push h [] call = refl
calls-push h (c ∷ calls) call = calls-push (after_call h c) calls call

offer-taken : (h : History) (source moment : ℕ) (mark : Mark) → may_offer h.now source moment mark ≡ true →
    (after_call h (Offer source moment mark)).now ≡ offered_in h.now source moment mark
offer-taken h source moment mark may = ap (λ (b : Bool). (if b then taken_in h source moment mark else h).now) may

pub reached-offer : (start m : Merger) (source moment : ℕ) (mark : Mark) → IsReached start m →
    may_offer m source moment mark ≡ true → IsReached start (offered_in m source moment mark)
reached-offer start m source moment mark was may = record {
  calls = was.calls ++ Offer source moment mark ∷ [];
  now = ap (λ (h : History). h.now) (calls-push (begins start) was.calls (Offer source moment mark))
      ∙ (offer-taken (after_calls (begins start) was.calls) source moment mark
      (ap (λ n. may_offer n source moment mark) was.now ∙ may)
      ∙ ap (λ n. offered_in n source moment mark) was.now);
}

pub reached-next : (start m : Merger) → IsReached start m → IsReached start (next_of m).1
reached-next start m was = record {
  calls = was.calls ++ Next ∷ [];
  now = ap (λ (h : History). h.now) (calls-push (begins start) was.calls Next) ∙ ap (λ n. (next_of n).1) was.now;
}

keeps-calls : (h : History) (calls : List Call) → Keeps h → Keeps (after_calls h calls)
keeps-calls h [] k = k
keeps-calls h (call ∷ calls) k = keeps-calls (after_call h call) calls (keeps-call h call k)

pub reached-fits : (s : Setup) (m : Merger) → IsReached (start_of s) m → Fits m
reached-fits s m was = subst Fits was.now (keeps-calls (begins (start_of s)) was.calls (keeps-begins (start_of s)
    (opened-IsFresh (length s.ins) (length s.outs) s.routes))).fits

pub reached-settled : (s : Setup) (m : Merger) → IsReached (start_of s) m → m.draining ≡ false → IsSettled m
reached-settled s m was quiet = subst IsSettled was.now
    ((orderly (start_of s) was.calls (opened-IsFresh (length s.ins) (length s.outs) s.routes)).settled
    (ap (λ (n : Merger). n.draining) was.now ∙ quiet))

tracked_of : (s : Setup) (m : Merger) → (was : IsReached (start_of s) m) →
    IsTracked (start_of s) (after_calls (begins (start_of s)) was.calls)
tracked_of s m was = tracked (start_of s) was.calls (opened-IsFresh (length s.ins) (length s.outs) s.routes)

pub reached-sources : (s : Setup) (m : Merger) → IsReached (start_of s) m → length m.links ≡ length s.ins
reached-sources s m was = ap (λ (n : Merger). length n.links) (sym was.now) ∙ ((tracked_of s m was).sources
    ∙ as_many (length s.ins) (length s.outs) s.routes)

pub reached-outs : (s : Setup) (m : Merger) (source : ℕ) → IsReached (start_of s) m → source < length m.links →
    (link_of m source).outs ≡ outs_of source s.routes
reached-outs s m source was below =
    let few : length m.links ≡ length s.ins = reached-sources s m was in
    ap (λ (n : Merger). (link_of n source).outs) (sym was.now) ∙ ((tracked_of s m was).routes source
    ∙ ap (λ (l : Link). l.outs) (get_or-map-range_with_len (λ x. closed_link (outs_of x s.routes)) 0 (length s.ins)
    source source (closed_link []) (subst (λ n. source < n) few below) (omega arith)))

pub reached-goes : (s : Setup) (m : Merger) → IsReached (start_of s) m → (out source : ℕ) →
    get_or (link_of m source).outs out false ≡ goes_out s out source
reached-goes s m was out source = ap (λ (n : Merger). get_or (link_of n source).outs out false) (sym was.now)
    ∙ ap (λ outs. get_or outs out false) ((tracked_of s m was).routes source)

share-map : (f g : ℕ → Bool) (xs : List ℕ) → share (map f xs) (map g xs) ≡ list_any (λ (x : ℕ). f x && g x) xs
share-map f g [] = refl
share-map f g (x ∷ xs) = ap (λ (b : Bool). (f x && g x) || b) (share-map f g xs)

-- Which sources share, by the router's outs and by the routes.
pub reached-shares : (s : Setup) (m : Merger) → IsReached (start_of s) m → Shares (sharing s.routes) m
reached-shares s m was o x o_below x_below = ap (λ (b : Bool). not (o == x) && b)
    (sym (ap (λ outs. share outs (link_of m x).outs) (reached-outs s m o was o_below)
    ∙ (ap (λ outs. share (outs_of o s.routes) outs) (reached-outs s m x was x_below)
    ∙ share-map (λ out. stands_in (o, out) s.routes) (λ out. stands_in (x, out) s.routes) (range_with_len 0 16))))
