use Rattle.std.proofs.Common.{length, ◌∙◌, ap}
use Rattle.mb_outside.specs.Contents.{next_handle}
use Rattle.mb_rig.proofs.BeginLemmas.{all-ends, all-keeps, create-ends, create-keeps, feeds-all, feeds-some, next-of}
use Rattle.mb_rig.proofs.BeginLemmas.{open-ends, open-keeps, outs-all, outs-many, outs-some, run-begins_by}
use Rattle.mb_rig.proofs.run.run_files.Goals as goal

pub run_feeds-requires : goal.run_feeds-requires
run_feeds-requires g c =
    let D = g.D.Desk in
    let s = c.args.rig.now in
    let opened = feeds-all D.tells D.contents c.args.limit c.ins.result.now s.ins c.new-feeds.result.items
    c.open_feeds.new.feeds.items c.args.desk.now c.open_feeds.new.desk c.new-feeds.ensures c.ins.ensures
    c.in-Ok.ensures.opened in
    let created = outs-all D.tells D.contents c.outs.result.now s.outs c.args.bay.now.outs.items
    c.create_outs.new.outs.items c.open_feeds.new.desk c.create_outs.new.desk c.requires.begins.none c.outs.ensures
    c.in-Ok-create_outs.ensures.created in
    record {
      begins = (
        s,
        (D.contents c.args.desk.now).written 1,
        next_handle (D.contents c.args.desk.now),
        next_handle (D.contents c.open_feeds.new.desk),
        c.args.limit,
        run-begins_by D.tells D.contents s c.args.limit c.as_mut_slice.result.now c.open_feeds.new.feeds.items
            c.args.bay.now c.create_outs.new.outs (D.contents c.args.desk.now) c.open_feeds.new.desk c.create_outs.new.desk
            c.requires.right c.requires.begins c.as_mut_slice.ensures.value opened created,
      );
    }

pub returns-in-Ok-create_outs-clause-ends : goal.returns-in-Ok-create_outs-clause-ends
returns-in-Ok-create_outs-clause-ends g c = λ t.
    let D = g.D.Desk in
    let s = c.args.rig.now in
    let opened = feeds-all D.tells D.contents c.args.limit c.ins.result.now s.ins c.new-feeds.result.items
    c.open_feeds.new.feeds.items c.args.desk.now c.open_feeds.new.desk c.new-feeds.ensures c.ins.ensures
    c.in-Ok.ensures.opened in
    let created = outs-all D.tells D.contents c.outs.result.now s.outs c.args.bay.now.outs.items
    c.create_outs.new.outs.items c.open_feeds.new.desk c.create_outs.new.desk c.requires.begins.none c.outs.ensures
    c.in-Ok-create_outs.ensures.created in
    let begins =
    run-begins_by D.tells D.contents s c.args.limit c.as_mut_slice.result.now c.open_feeds.new.feeds.items
    c.args.bay.now c.create_outs.new.outs (D.contents c.args.desk.now) c.open_feeds.new.desk c.create_outs.new.desk
    c.requires.right c.requires.begins c.as_mut_slice.ensures.value opened created in
    all-ends s c.args.limit (D.contents c.args.desk.now) (D.contents c.open_feeds.new.desk)
    (D.contents c.create_outs.new.desk) (D.contents c.run_feeds.new.desk) c.run_feeds.result (opened.more t)
    (created.more t)
    ((c.run_feeds.ensures.touched s _ _ _ c.args.limit begins).given t)
    (c.run_feeds.ensures.merges s (D.contents c.args.desk.now) _ c.args.limit t
    (next-of (D.contents c.args.desk.now) (D.contents c.open_feeds.new.desk) s (opened.more t)) begins)

pub returns-in-Ok-create_outs-clause-keeps : goal.returns-in-Ok-create_outs-clause-keeps
returns-in-Ok-create_outs-clause-keeps g c = λ t.
    let D = g.D.Desk in
    let s = c.args.rig.now in
    let opened = feeds-all D.tells D.contents c.args.limit c.ins.result.now s.ins c.new-feeds.result.items
    c.open_feeds.new.feeds.items c.args.desk.now c.open_feeds.new.desk c.new-feeds.ensures c.ins.ensures
    c.in-Ok.ensures.opened in
    let created = outs-all D.tells D.contents c.outs.result.now s.outs c.args.bay.now.outs.items
    c.create_outs.new.outs.items c.open_feeds.new.desk c.create_outs.new.desk c.requires.begins.none c.outs.ensures
    c.in-Ok-create_outs.ensures.created in
    let begins =
    run-begins_by D.tells D.contents s c.args.limit c.as_mut_slice.result.now c.open_feeds.new.feeds.items
    c.args.bay.now c.create_outs.new.outs (D.contents c.args.desk.now) c.open_feeds.new.desk c.create_outs.new.desk
    c.requires.right c.requires.begins c.as_mut_slice.ensures.value opened created in
    all-keeps D.tells D.contents s (D.contents c.args.desk.now) _ _ c.open_feeds.new.desk c.create_outs.new.desk
    c.run_feeds.new.desk t (ap length c.as_mut_slice.ensures.value ∙ opened.many)
    (outs-many c.create_outs.new.outs.items s.outs created.specs) (opened.more t) (created.more t)
    (c.run_feeds.ensures.touched s _ _ _ c.args.limit begins)

pub returns-in-Ok-create_outs-clause-link : goal.returns-in-Ok-create_outs-clause-link
returns-in-Ok-create_outs-clause-link g c =
    let D = g.D.Desk in
    let s = c.args.rig.now in
    let opened = feeds-all D.tells D.contents c.args.limit c.ins.result.now s.ins c.new-feeds.result.items
    c.open_feeds.new.feeds.items c.args.desk.now c.open_feeds.new.desk c.new-feeds.ensures c.ins.ensures
    c.in-Ok.ensures.opened in
    let created = outs-all D.tells D.contents c.outs.result.now s.outs c.args.bay.now.outs.items
    c.create_outs.new.outs.items c.open_feeds.new.desk c.create_outs.new.desk c.requires.begins.none c.outs.ensures
    c.in-Ok-create_outs.ensures.created in
    c.run_feeds.ensures.link s _ _ _ c.args.limit
    (run-begins_by D.tells D.contents s c.args.limit c.as_mut_slice.result.now c.open_feeds.new.feeds.items
    c.args.bay.now c.create_outs.new.outs (D.contents c.args.desk.now) c.open_feeds.new.desk c.create_outs.new.desk
    c.requires.right c.requires.begins c.as_mut_slice.ensures.value opened created)

pub returns-in-Err-create_outs-clause-ends : goal.returns-in-Err-create_outs-clause-ends
returns-in-Err-create_outs-clause-ends g c = λ t.
    let D = g.D.Desk in
    let s = c.args.rig.now in
    let opened = feeds-all D.tells D.contents c.args.limit c.ins.result.now s.ins c.new-feeds.result.items
    c.open_feeds.new.feeds.items c.args.desk.now c.open_feeds.new.desk c.new-feeds.ensures c.ins.ensures
    c.in-Ok.ensures.opened in
    create-ends s c.args.limit (D.contents c.args.desk.now) (D.contents c.open_feeds.new.desk)
    (D.contents c.create_outs.new.desk) (opened.more t)
    (outs-some D.tells D.contents c.outs.result.now s.outs c.args.bay.now.outs.items c.open_feeds.new.desk
    c.create_outs.new.desk c.requires.begins.none c.outs.ensures c.in-Err-create_outs.ensures.part t)

pub returns-in-Err-create_outs-clause-keeps : goal.returns-in-Err-create_outs-clause-keeps
returns-in-Err-create_outs-clause-keeps g c = λ t.
    let D = g.D.Desk in
    let s = c.args.rig.now in
    let opened = feeds-all D.tells D.contents c.args.limit c.ins.result.now s.ins c.new-feeds.result.items
    c.open_feeds.new.feeds.items c.args.desk.now c.open_feeds.new.desk c.new-feeds.ensures c.ins.ensures
    c.in-Ok.ensures.opened in
    create-keeps s (D.contents c.args.desk.now) (D.contents c.open_feeds.new.desk) (D.contents c.create_outs.new.desk)
    (opened.more t)
    (outs-some D.tells D.contents c.outs.result.now s.outs c.args.bay.now.outs.items c.open_feeds.new.desk
    c.create_outs.new.desk c.requires.begins.none c.outs.ensures c.in-Err-create_outs.ensures.part t)

pub returns-in-Err-clause-ends : goal.returns-in-Err-clause-ends
returns-in-Err-clause-ends g c = λ t.
    let D = g.D.Desk in
    let s = c.args.rig.now in
    open-ends s c.args.limit (D.contents c.args.desk.now) (D.contents c.open_feeds.new.desk)
    (feeds-some D.tells D.contents c.args.limit c.ins.result.now s.ins c.new-feeds.result.items c.args.desk.now
    c.open_feeds.new.desk c.new-feeds.ensures c.ins.ensures c.in-Err.ensures.part t)

pub returns-in-Err-clause-keeps : goal.returns-in-Err-clause-keeps
returns-in-Err-clause-keeps g c = λ t.
    let D = g.D.Desk in
    let s = c.args.rig.now in
    open-keeps s (D.contents c.args.desk.now) (D.contents c.open_feeds.new.desk)
    (feeds-some D.tells D.contents c.args.limit c.ins.result.now s.ins c.new-feeds.result.items c.args.desk.now
    c.open_feeds.new.desk c.new-feeds.ensures c.ins.ensures c.in-Err.ensures.part t)
