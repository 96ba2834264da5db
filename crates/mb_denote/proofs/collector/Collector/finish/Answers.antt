use Rattle.std.proofs.Common.{◌++◌, ap, ◌∙◌, map}
use Rattle.mb_stream.specs.Denotation.{left_open}
use Rattle.mb_denote.specs.Collected.{Collected}
use Rattle.mb_denote.specs.Denoted.{denoted, timed}
use Rattle.mb_denote.proofs.CollectLemmas.{Stands_finish}
use Rattle.mb_denote.proofs.collector.Collector.finish.Goals as goal

pub returns-clause-means : goal.returns-clause-means
returns-clause-means c = λ marks h. Stands_finish c.args.self marks (denoted record {
  items = c.in_ok-finished.field-0;
  rts = c.new.result;
}) h
    (c.in_ok-finished.ensures.all ∙ ap (λ (v : Collected). v.items ++ left_open v.open_data) c.self.view_is)
    (ap (map timed) c.new.ensures ∙ ap (λ (v : Collected). v.realtimes) c.self.view_is)
