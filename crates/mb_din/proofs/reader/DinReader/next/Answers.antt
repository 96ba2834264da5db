use Rattle.mb_stream.specs.ReaderLaw.{answer}
use Rattle.mb_din.proofs.FewTold.{few_of}
use Rattle.mb_din.proofs.FreeLemmas.{short_frees}
use Rattle.mb_din.proofs.ReaderLaw.{next_stands, all_told}
use Rattle.mb_din.proofs.RunNextLemmas.{run_next}
use Rattle.mb_din.proofs.TurnLemmas.{front_of, end_of, none_of, falls_of, longest_of}
use Rattle.mb_din.proofs.reader.DinReader.next.Goals as goal

pub returns-clause-front : goal.returns-clause-front
returns-clause-front c =
    front_of c.args.self.now c.advance.new.self c.args.input.now.now c.advance.new.input.now c.advance.ensures.left
    c.advance.ensures.behind

pub returns-clause-none : goal.returns-clause-none
returns-clause-none c =
    none_of c.advance.result c.args.self.now c.args.input.now.now c.advance.new.input.now c.advance.ensures.told
    c.advance.ensures.left

pub returns-clause-longest : goal.returns-clause-longest
returns-clause-longest c =
    longest_of c.advance.result c.args.self.now c.args.input.now.now c.advance.new.input.now c.advance.ensures.some
    c.advance.ensures.told c.advance.ensures.left

pub returns-clause-progress : goal.returns-clause-progress
returns-clause-progress c =
    falls_of c.advance.result c.args.self.now c.args.input.now.now c.advance.new.input.now c.advance.new.self
    c.advance.ensures.some c.advance.ensures.told c.advance.ensures.left c.advance.ensures.behind

pub returns-clause-end : goal.returns-clause-end
returns-clause-end c =
    end_of c.args.self.now c.advance.new.self c.args.input.now.now c.advance.new.input.now (returns-clause-front c)

pub returns-clause-stands : goal.returns-clause-stands
returns-clause-stands c =
    next_stands c.args.self.now c.advance.new.self c.args.input.now.now c.advance.new.input.now
    (answer c.advance.result) c.advance.ensures.told c.advance.ensures.left c.advance.ensures.behind

pub returns-clause-all_told : goal.returns-clause-all_told
returns-clause-all_told c =
    all_told c.advance.result c.args.self.now c.advance.new.self c.args.input.now.now c.advance.new.input.now
    c.advance.ensures.told c.advance.ensures.left c.advance.ensures.behind (returns-clause-none c)

pub returns-clause-free : goal.returns-clause-free
returns-clause-free c =
    short_frees c.args.self.now c.advance.new.self c.args.input.now.now (answer c.advance.result) c.advance.ensures.told
    c.advance.ensures.behind

pub returns-clause-runs : goal.returns-clause-runs
returns-clause-runs c =
    run_next c.args.self.now c.args.input.now.now (answer c.advance.result) c.advance.ensures.told

pub returns-clause-few : goal.returns-clause-few
returns-clause-few c = few_of c.args.self.now c.args.input.now.now (answer c.advance.result) c.advance.ensures.told
