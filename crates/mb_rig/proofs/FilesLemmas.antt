-- What a link is whose file was opened.
use Rattle.std.proofs.Common.{◌≡◌, ◌≤◌, ◌^◌, ℕ, Bool, false, List, [], IsTrue, ◌∙◌, ap, sym, length, arith}
use Rattle.mb_outside.specs.Contents.{Contents, after_open, is_readable, next_handle}
use Rattle.mb_outside.specs.ContentsLaws.{with_entry-here}
use Rattle.mb_outside.proofs.HandleLemmas.{readable-opened}
use Rattle.mb_rig.specs.Link.{LinkReads, LinkStands}
use Rattle.mb_rig.specs.declared.link.Link.{Link}

pub link-opened : {S : Type 0} (tells : Bool) (contents : S → Contents) (l : Link) (before after : S)
    (name : List ℕ) → l.over ≡ false → l.supply.limit ≤ 2 ^ 40 → l.supply.ahead ≡ [] → LinkReads l [] [] →
    (IsTrue tells → (l.supply.handle ≡ next_handle (contents before)) × (content : List ℕ)
    × (contents after ≡ after_open name content (contents before))) → LinkStands tells contents l after []
link-opened tells contents l before after name reading most none reads opened = record {
  bytes = [];
  lent = λ t.
      let o = opened t in
      record {
        readable =
            ap (is_readable (contents after)) o.0
            ∙ (ap (λ (z : Contents). is_readable z (next_handle (contents before))) o.2
            ∙ readable-opened name o.1 (contents before));
        taken =
            ap (contents after).taken o.0
            ∙ (ap (λ (z : Contents). z.taken (next_handle (contents before))) o.2
            ∙ (with_entry-here (contents before).taken (next_handle (contents before)) [] ∙ sym none));
      };
  counted = λ t.
      let o = opened t in
      record {
        count = omega (
          arith,
          ap (λ (h : ℕ). length ((contents after).taken h)) o.0,
          ap (λ (z : Contents). length (z.taken (next_handle (contents before)))) o.2,
          ap length (with_entry-here (contents before).taken (next_handle (contents before)) []),
          reads.count,
          ap length none,
        );
        within = omega (arith, reads.count, ap length none);
      };
  most = most;
  reads = λ _. reads;
  ends = λ over. cc;
  nothing_left = λ over. cc;
}
