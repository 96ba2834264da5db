-- The four lines of a self-test, or a front of them, were written.
use Rattle.std.proofs.Common.{◌≡◌, ℕ, true, false, List, [], refl, inl, sym, ◌∙◌, ap, arith}
use Rattle.mb_message.specs.Front.{IsPart}
use Rattle.mb_outside.specs.Contents.{Contents, after_read, after_write}
use Rattle.mb_outside.specs.ContentsLaws.{after_write-none, after_read-none}
use Rattle.mb_outside.specs.TakingLaws.{part-front, part-differs}
use Rattle.mb_smoke.specs.Selftest.{selftest_text}
use Rattle.mb_words.specs.Command.{Selftesting}
use Rattle.mb_top.specs.Ran.{CommandRan, written_of}
use Rattle.mb_top.specs.declared.status.Status.TheVariants.{Done, Stopped}
use Rattle.mb_top.specs.declared.status.Stop.TheVariants.{Refused}

not-read : false ≡ true → ⊥
not-read e = cc

written-alone : (output : List ℕ) (before after : Contents) → after ≡ after_write 1 output before →
    after ≡ written_of [] output [] before
written-alone output before after e =
    e
    ∙ (ap (after_write 1 output) (sym (after_read-none 0 before))
    ∙ sym (after_write-none 2 (after_write 1 output (after_read 0 0 before))))

pub told-whole : (start count limit : ℕ) (text : List ℕ) (before after : Contents) → text ≡ selftest_text start count →
    after ≡ after_write 1 text before → CommandRan (Selftesting start count) limit before after Done
told-whole start count limit text before after is wrote =
    record {
      start = before;
      opened = inl refl;
      input = [];
      output = text;
      tally = [];
      contents = written-alone text before after wrote;
      front = (before.left 0, refl);
      unread = λ e. refl;
      within = omega arith;
      ends = inl (record {
        rules = [];
        got_them = tt;
        holds = (
          record {
            all = λ reads. absurd (not-read reads);
            below = λ reads. absurd (not-read reads);
            can = tt;
            sound = refl;
            output_is = is;
            tally_is = refl;
          },
          refl,
          tt,
        );
      });
    }

pub told-front : (start count limit : ℕ) (text front : List ℕ) (before after : Contents) →
    text ≡ selftest_text start count → IsPart front text → after ≡ after_write 1 front before →
    CommandRan (Selftesting start count) limit before after (Stopped Refused)
told-front start count limit text front before after is part wrote =
    record {
      start = before;
      opened = inl refl;
      input = [];
      output = front;
      tally = [];
      contents = written-alone front before after wrote;
      front = (before.left 0, refl);
      unread = λ e. refl;
      within = omega arith;
      ends = inl (record {
        rules = [];
        got_them = tt;
        holds = record {
          front = ((part-front front text part).0, sym is ∙ (part-front front text part).1);
          at_least = (front, refl);
          tally_front = ([], refl);
          behind = inl refl;
          unfinished = λ all told. part-differs front text part (all ∙ sym is);
        };
      });
    }
