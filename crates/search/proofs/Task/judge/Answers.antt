-- `search::Task::judge` meets its contract: the roots that are found are all there are, and the last check decides. Assumes nothing.
use Rattle.rules.specs.Legal.{legal_at}
use Rattle.search.proofs.Judging.{passed, refused}
use Rattle.search.proofs.Task.judge.Goals as goal

pub passes-requires : goal.passes-requires
passes-requires c =
    let home = c.args.self.now.legal.keys in
    let theirs = c.roots-t.ensures in
    let ours = c.roots_among-o.ensures in
    (home.ascending, legal_at _ (λ k i. ((theirs.roots k).0 i).0), legal_at _ (λ k i. home.legal k ((ours.roots k).0 i).0))

pub returns-then-not-passes : goal.returns-then-not-passes
returns-then-not-passes c =
    refused _ _ _ _ _ _ _ _ _ _ _ _ c.args.self.now.legal.keys c.roots-t.ensures c.roots_among-o.ensures c.requires.0 c.requires.1 c.if-not-passes.ensures

pub returns : goal.returns
returns c =
    passed _ _ _ _ _ _ _ _ _ _ _ _ c.args.self.now.legal.keys c.roots-t.ensures c.roots_among-o.ensures c.requires.0 c.requires.1 c.if-not-passes.ensures
