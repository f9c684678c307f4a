use Rattle.std.proofs.Common.{◌≡◌, ◌∙◌, ◌<◌, Bor, List, [], ◌++◌, ◌∷◌, map, true, get_or, length, reverse, sym, arith, rules}
use Rattle.std.proofs.lemmas.List.{append-nil, map-append, reverse-append}
use Rattle.judging.proofs.Clash.{clash_told, pass, start, unlisted}
use Rattle.judging.proofs.Lists.{any_within, one_more, pair_within}
use Rattle.judging.specs.Marks.{any_pair, is_unlisted}
use Rattle.faults.proofs.Places.{at_none, at_some}
use Rattle.faults.specs.Faults.{is_region, place_in}
use Rattle.judging.specs.Reach.{rows_of, apart_from, clash_by, meet}
use Rattle.rules.specs.declared.Mark.{Mark}
use Rattle.undo.proofs.Laws.{or_right}
use Rattle.undo.specs.Table.{any}
use Rattle.judging.proofs.BitTable.any_clash.Goals as goal

-- the entries passed, with one more
turned : (bs : List (Bor Mark)) (b : Bor Mark) → reverse (map (λ e. e.now) (bs ++ b ∷ [])) ≡ b.now ∷ reverse (map (λ e. e.now) bs)
turned bs b = rw (map-append (λ (e : Bor Mark). e.now) bs (b ∷ []), reverse-append (map (λ (e : Bor Mark). e.now) bs) (b.now ∷ []))

pub loop-mark-init : goal.loop-mark-init
loop-mark-init c = (start c.args.self.now.regions.now (rows_of c.args.self.now), rw (c.into_iter-mark-iterator.ensures.into_iter_gives, c.rev-mark-items.ensures.source, c.iter.ensures.rest) (append-nil c.args.log.now))

pub returns-in_default : goal.returns-in_default
returns-in_default c =
    let a = c.args in
    let rs = a.self.now.regions.now in
    let m = c.in-Some.mark.now in
    let passed = reverse (map (λ b. b.now) c.loop-mark.yielded) in
    let place = at_none (is_region m.key) rs c.place_in.result c.place_in.ensures c.in_default.is in
    let whole = one_more c.next.new.self.iter.rest.now c.loop-mark.mark-iterator.iter.rest.now m passed a.log.now c.in-Some.ensures.steps c.loop-mark.invariant.1 in
    let e : any (is_unlisted rs) a.log.now ≡ true = rw whole at (any_within (is_unlisted rs) c.next.new.self.iter.rest.now m passed (unlisted rs (rows_of a.self.now) m (omega (arith, place)))) in
    rw e

pub returns-then-meets : goal.returns-then-meets
unfolding any_pair
returns-then-meets c =
    let a = c.args in
    let rs = a.self.now.regions.now in
    let m = c.in-Some.mark.now in
    let passed = reverse (map (λ b. b.now) c.loop-mark.yielded) in
    let place = at_some (is_region m.key) rs c.place_in.result c.place_in.ensures c.in-Some-place_in.place c.in-Some-place_in.is in
    let its_clash : c.meets.result ≡ meet (apart_from (rows_of a.self.now) (place_in rs m.key)) (get_or c.loop-mark.seen m.line 0)
    = c.meets.ensures ∙ rw (c.all_apart-apart.ensures c.in-Some-place_in.place (search rules), place.0) in
    let told = clash_told rs (rows_of a.self.now) m (search rules) passed c.loop-mark.seen c.loop-mark.invariant.0 (search rules) in
    let h : any (clash_by rs (rows_of a.self.now) m) passed ≡ true = sym told ∙ (sym its_clash ∙ c.if-meets.true) in
    let whole = one_more c.next.new.self.iter.rest.now c.loop-mark.mark-iterator.iter.rest.now m passed a.log.now c.in-Some.ensures.steps c.loop-mark.invariant.1 in
    sym (or_right (any (is_unlisted rs) a.log.now) (rw whole at (pair_within (clash_by rs (rows_of a.self.now)) c.next.new.self.iter.rest.now m passed h)))

pub loop-mark-preserved : goal.loop-mark-preserved
loop-mark-preserved c =
    let a = c.args in
    let rs = a.self.now.regions.now in
    let m = c.in-Some.mark.now in
    let passed = reverse (map (λ b. b.now) c.loop-mark.yielded) in
    let place = at_some (is_region m.key) rs c.place_in.result c.place_in.ensures c.in-Some-place_in.place c.in-Some-place_in.is in
    let its_clash : c.meets.result ≡ meet (apart_from (rows_of a.self.now) (place_in rs m.key)) (get_or c.loop-mark.seen m.line 0)
    = c.meets.ensures ∙ rw (c.all_apart-apart.ensures c.in-Some-place_in.place (search rules), place.0) in
    let listed : place_in rs m.key < length rs = omega (arith, place) in
    let more = pass rs (rows_of a.self.now) m (search rules) passed c.loop-mark.seen c.loop-mark.invariant.0 (search rules) listed (sym its_clash ∙ c.if-meets.false) in
    let whole = one_more c.next.new.self.iter.rest.now c.loop-mark.mark-iterator.iter.rest.now m passed a.log.now c.in-Some.ensures.steps c.loop-mark.invariant.1 in
    rw (turned c.loop-mark.yielded c.in-Some.mark, c.bit.ensures, place.0) (more, whole)
