use Rattle.std.proofs.Common.{◌≡◌, ℕ, ◌+◌, ◌*◌, ◌<◌, ◌≤◌, false, List, ◌++◌, ◌==◌, length, take, drop, sym, ap, ap₂}
use Rattle.std.proofs.Common.{◌∙◌, append_assoc, arith}
use Rattle.std.proofs.lemmas.Bool.Decides.{nat_tests}
use Rattle.std.proofs.lemmas.List.{take-append-drop}
use Rattle.arrayvec.specs.ArrayVec.{array_vec_len}
use Rattle.mb_usb.proofs.Loops.{Sofar-more, run_suits, parts_pass}
use Rattle.mb_calls.proofs.usb_writer.put_all.Goals as goal

parts_of : (n : ℕ) (front back whole : List ℕ) → front ≡ take n whole → back ≡ drop n whole → front ++ back ≡ whole
parts_of n front back whole f b = ap₂ (λ xs ys. xs ++ ys) f b ∙ take-append-drop n whole

more_taken : (taken front back rest bytes : List ℕ) → front ++ back ≡ rest → taken ++ rest ≡ bytes → (taken ++ front) ++
    back ≡ bytes
more_taken taken front back rest bytes whole so_far = append_assoc taken front back ∙ ap (λ xs. taken ++ xs) whole ∙
    so_far

room_left : (out new front back rest : ℕ) → front + back ≡ rest → 0 < front → new ≤ out + 24 → out + 24 * rest ≤ 1024 →
    new + 24 * back ≤ 1024
room_left out new front back rest whole some grown room = omega arith

pub put-requires-clause-suits : goal.put-requires-clause-suits
put-requires-clause-suits c =
    let whole = parts_of c.min.result _ _ _ c.split_at.ensures.front c.split_at.ensures.back in
    run_suits c.pieces.writer.in_sysex c.split_at.result.0.now c.pieces.invariant.opened
    (parts_pass c.pieces.rest.now c.split_at.result.0.now c.split_at.result.1.now whole c.pieces.invariant.run).0

pub pieces-preserved : goal.pieces-preserved
pieces-preserved c =
    let whole = parts_of c.min.result _ _ _ c.split_at.ensures.front c.split_at.ensures.back in
    let not_empty : (length c.pieces.rest.now == 0) ≡ false = sym c.is_empty.ensures ∙ c.pieces-test.true in
    let some : 0 < length c.pieces.rest.now = grind (arith, nat_tests) in
    let taken = c.pieces.invariant.so_far.0 in
    record {
      room = room_left (array_vec_len c.pieces.out) (array_vec_len c.put.new.out) (length c.split_at.result.0.now)
          (length c.split_at.result.1.now) (length c.pieces.rest.now) (omega arith) (omega arith) c.put.ensures.len
          c.pieces.invariant.room;
      opened = c.put.ensures.in_sysex ∙ c.pieces.invariant.opened;
      run = (parts_pass c.pieces.rest.now c.split_at.result.0.now c.split_at.result.1.now whole
          c.pieces.invariant.run).1;
      so_far = (
        taken ++ c.split_at.result.0.now,
        more_taken taken _ _ _ _ whole c.pieces.invariant.so_far.1,
        Sofar-more c.args.writer.now c.pieces.writer c.put.new.self c.args.out.now.items c.pieces.out.items
            c.put.new.out.items
            taken c.split_at.result.0.now c.pieces.invariant.so_far.2 c.put.ensures.cable c.put.ensures.stands
            c.put.ensures.written,
      );
    }
