use Rattle.std.proofs.Common.{[], List, ap, subst, sym, ◌∙◌}
use Rattle.mb_stream.specs.Puts.{Put, puts_at}
use Rattle.mb_filter.specs.Mapper.{kept}
use Rattle.mb_track.specs.TrackReading.{track_moment}
use Rattle.mb_rewrite.specs.Line.{LineWrote}
use Rattle.mb_rewrite.proofs.FilterLemmas.{maps-behind}
use Rattle.mb_rewrite.proofs.LineLemmas.{wrote-none}
use Rattle.mb_rewrite.proofs.filtering.Filtering.hear.Goals as goal

pub returns-in-Some-clause-maps : goal.returns-in-Some-clause-maps
returns-in-Some-clause-maps g c =
    maps-behind c.args.self.now.mapper c.put.new.self c.args.ev (c.requires.suits).event c.put.ensures.state

pub returns-in-None-clause-maps : goal.returns-in-None-clause-maps
returns-in-None-clause-maps g c =
    maps-behind c.args.self.now.mapper c.put.new.self c.args.ev (c.requires.suits).event c.put.ensures.state

pub returns-in-None-clause-ok : goal.returns-in-None-clause-ok
returns-in-None-clause-ok g c =
    subst (λ (ps : List Put). LineWrote c.args.self.now.line c.args.self.now.line ps c.args.held.now.items
    c.args.held.now.items (λ given. g.K.Out.took c.args.out.now given c.args.out.now))
    (ap (λ ms. puts_at (track_moment c.args.self.now.track) ms) (ap kept (sym c.in-None.is) ∙ c.put.ensures.kept))
    (wrote-none c.args.self.now.line c.args.held.now.items
    (λ given. g.K.Out.took c.args.out.now given c.args.out.now) (g.met.K.Out.nothing c.args.out.now))
