use Rattle.std.proofs.Common.{◌∙◌, get_or, map}
use Rattle.walking.proofs.Indices.{entries_count, walk_end, walk_hit, walk_on}
use Rattle.walking.proofs.entry_at.Goals as goal

pub returns-then-left-entries : goal.returns-then-left-entries
returns-then-left-entries c =
    let a = c.args in
    let ks = map (λ m. m.key) a.log.now in
    let rs = c.keys-key-items.result.now in
    let i = c.loop-key.key-index in
    c.entry_in.ensures
    ∙ walk_hit rs ks i c.loop-key.left c.loop-key-test.true _ (c.count_of-entries.ensures ∙ entries_count (get_or rs i 0) a.log.now) c.if-left-entries.true
    ∙ c.loop-key.invariant

pub loop-key-preserved : goal.loop-key-preserved
loop-key-preserved c =
    let a = c.args in
    let ks = map (λ m. m.key) a.log.now in
    let rs = c.keys-key-items.result.now in
    let i = c.loop-key.key-index in
    walk_on rs ks i c.loop-key.left c.loop-key-test.true _ (c.count_of-entries.ensures ∙ entries_count (get_or rs i 0) a.log.now) c.if-left-entries.false ∙ c.loop-key.invariant

pub returns : goal.returns
returns c =
    let ks = map (λ m. m.key) c.args.log.now in
    walk_end c.keys-key-items.result.now ks c.loop-key.key-index c.loop-key.left c.loop-key-test.false ∙ c.loop-key.invariant
