-- Two steps of a content's reader as one, where the first tells nothing.
use Rattle.std.proofs.Common.{◌≡◌, ℕ, ◌-◌, ◌≤◌, List, [], ◌++◌, length, ap, ap₂, sym, subst, ◌∙◌, arith, append_assoc}
use Rattle.std.proofs.Common.{append-nil, Option, Some, None}
use Rattle.std.specs.Prelude.{OnSome, IfNone}
use Rattle.mb_message.specs.declared.event.Seen.{Seen}
use Rattle.mb_stream.specs.ReaderLaw.{answer}
use Rattle.mb_message.specs.Front.{IsFront}
use Rattle.mb_frames.specs.Counting.{rest_parts}
use Rattle.mb_stream.specs.Told.{Told, Known}
use Rattle.mb_ble.specs.Packets.{Token, tokens}
use Rattle.mb_ble.specs.Reading.{onto}
use Rattle.mb_ble.specs.News.{news_from}
use Rattle.mb_ble.specs.Stands.{last, Holds, Read, Reads, Counts}
use Rattle.mb_ble.specs.declared.content.Content.{Content}
use Rattle.mb_ble.proofs.Whole.{news-append, onto-append, length-append, no_parts}

read-then : (was mid now : Content) (input between left : List ℕ) (seen : List Told) (before : List Token)
    (told : List Known) (room : ℕ) (following : List ℕ) →
    (r : Read was mid input between [] before told room following) → Read mid now between left seen (onto before r.new)
    r.ahead (room - length r.taken) following → Read was now input left seen before told room following
read-then was mid now input between left seen before told room following r s = record {
  new = r.new ++ s.new;
  taken = r.taken ++ s.taken;
  front = r.front ∙ ap (λ z. r.taken ++ z) s.front ∙ sym (append_assoc r.taken s.taken left);
  parts = λ more.
      ap (λ z. tokens was.offset (last before) (rest_parts room z)) (append_assoc r.taken s.taken more)
      ∙ r.parts (s.taken ++ more)
      ∙ ap (λ z. r.new ++ z) (s.parts more)
      ∙ sym (append_assoc r.new s.new (tokens now.offset (last (onto (onto before r.new) s.new))
      (rest_parts (room - length r.taken - length s.taken) more)))
      ∙ ap₂ (λ b n. (r.new ++ s.new) ++ tokens now.offset (last b) (rest_parts n more)) onto_is minus;
  ahead = s.ahead;
  holds = subst (λ b. Holds now b s.ahead) onto_is s.holds;
  fresh = s.fresh;
  seen_is = s.seen_is;
  told_is =
      ap (λ z. z ++ s.fresh) quiet
      ∙ append_assoc (news_from before r.new) r.ahead s.fresh
      ∙ ap (λ z. news_from before r.new ++ z) s.told_is
      ∙ sym (append_assoc (news_from before r.new) (news_from (onto before r.new) s.new) s.ahead)
      ∙ ap (λ z. z ++ s.ahead) (sym (news-append r.new s.new before));
  still = subst (λ n. IsFront s.ahead (news_from (onto before (r.new ++ s.new))
      (tokens now.offset (last (onto before (r.new ++ s.new))) (rest_parts n (left ++ following))))) minus
      (subst (λ b. IsFront s.ahead (news_from b (tokens now.offset (last b)
      (rest_parts (room - length r.taken - length s.taken) (left ++ following))))) onto_is s.still);
}
  where
    onto_is : onto (onto before r.new) s.new ≡ onto before (r.new ++ s.new)
    onto_is = sym (onto-append r.new s.new before)

    minus : room - length r.taken - length s.taken ≡ room - length (r.taken ++ s.taken)
    minus = omega (arith, length-append r.taken s.taken)

    quiet : told ≡ news_from before r.new ++ r.ahead
    quiet = sym (append-nil told) ∙ ap (λ z. told ++ z) (sym (no_parts r.fresh r.seen_is)) ∙ r.told_is

pub reads-then : (was mid now : Content) (input between left : List ℕ) (seen : List Told) →
    Reads was mid input between [] → Reads mid now between left seen → Reads was now input left seen
reads-then was mid now input between left seen a b = record {
  reads = λ before told room following holds fits front.
      by before told room following fits (a.reads before told room following holds fits front);
}
  where
    by : (before : List Token) (told : List Known) (room : ℕ) (following : List ℕ) → length input ≤ room →
        Read was mid input between [] before told room following → Read was now input left seen before told room
        following
    by before told room following fits r =
        let short : length between ≤ room - length r.taken = omega (
          arith,
          fits,
          ap length r.front,
          length-append r.taken between,
        ) in
        read-then was mid now input between left seen before told room following r (b.reads (onto before r.new) r.ahead
        (room - length r.taken) following r.holds short r.still)

pub counts-then : (was mid now : Content) (input between left : List ℕ) → Counts was mid input between →
    Counts mid now between left → Counts was now input left
counts-then was mid now input between left a b = record {
  taken = a.taken ++ b.taken;
  front = a.front ∙ ap (λ z. a.taken ++ z) b.front ∙ sym (append_assoc a.taken b.taken left);
  offset = omega (arith, a.offset, b.offset, length-append a.taken b.taken);
  calm = λ c. b.calm (a.calm c);
  inside = λ e. b.inside (a.inside e);
}

-- a step, and another that may do nothing
pub joined_reads : (was mid now : Content) (input between left : List ℕ) (seen : Option Seen) →
    Reads was mid input between [] → OnSome seen (Reads mid now between left (answer seen)) →
    IfNone seen (now ≡ mid) → IfNone seen (left ≡ between) → Reads was now input left (answer seen)
joined_reads was mid now input between left (Some s) a b same stays = reads-then was mid now input between left
    (answer (Some s)) a b
joined_reads was mid now input between left None a b same stays = subst (λ z. Reads was now input z []) (sym stays)
    (subst (λ z. Reads was z input between []) (sym same) a)

pub joined_counts : (was mid now : Content) (input between left : List ℕ) (seen : Option Seen) →
    Counts was mid input between → OnSome seen (Counts mid now between left) →
    IfNone seen (now ≡ mid) → IfNone seen (left ≡ between) → Counts was now input left
joined_counts was mid now input between left (Some s) a b same stays = counts-then was mid now input between left a b
joined_counts was mid now input between left None a b same stays = subst (λ z. Counts was now input z) (sym stays)
    (subst (λ z. Counts was z input between) (sym same) a)
