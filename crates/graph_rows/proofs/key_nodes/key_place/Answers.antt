-- The flags passed so far are counted; the key node above the limit gives its vertex.
use Prim.Native.Nat.{suc, ◌+◌, ◌≤◌}
use native.Mathlib.Omega.{arith}
use mathlib.Core.Path.{◌≡◌, ◌∙◌}
use lib.ListN.{length-take}
use borrow.Author.Rules.{rules}
use Rattle.std.proofs.lemmas.List.{get_or-take}
use Rattle.ternary.specs.Lists.{count_below}
use Rattle.sheet.proofs.KeyFlagLaws.{flagged, flag_counted, key_found, key_missing}
use Rattle.graph_rows.proofs.key_nodes.key_place.Goals as goal
use Rattle.graph_rows.proofs.key_nodes.key_place.Goals.{After-from-found}

-- the vertex at hand is one of the net
here : (c : After-from-found) → c.loop-v.v ≤ c.args.net.vertex_count
here c = omega (arith, c.loop-v-test.true, length-take (c.args.net.vertex_count + 1) c.args.keys.now)

-- the flag just read is counted
counted : (c : After-from-found) → (
    c.loop-v.found + c.from-found.result ≡ count_below (c.loop-v.v + 1) (flagged c.args.keys.now))
counted c =
    let flag = c.from-found.ensures ∙ get_or-take (c.args.net.vertex_count + 1) c.args.keys.now c.loop-v.v 0 (omega (arith, here c)) in
    rw (c.loop-v.invariant.1, flag) (flag_counted c.args.net _ c.requires.1 c.loop-v.v (omega (arith, here c, c.requires.0)))

pub loop-v-init : goal.loop-v-init
unfolding count_below
loop-v-init c = (search rules, λ _. 0)

pub overflow_add-found : goal.overflow_add-found
overflow_add-found c =
    let flag = c.from-found.ensures ∙ get_or-take (c.args.net.vertex_count + 1) c.args.keys.now c.loop-v.v 0 (omega (arith, here (goal.at.overflow_add-found c).After-from-found)) in
    omega (arith, c.loop-v.invariant.0, flag, c.fits-keys c.loop-v.v)

pub returns-then-found-gt-MOST_KEY_NODES : goal.returns-then-found-gt-MOST_KEY_NODES
returns-then-found-gt-MOST_KEY_NODES c =
    let a = (goal.at.returns-then-found-gt-MOST_KEY_NODES c).After-from-found in
    let i = counted a in
    key_found c.args.net _ c.requires.1 c.loop-v.v (here a) c.requires.0 (rw c.loop-v.invariant.1 at c.loop-v.invariant.0)
    (rw i at c.if-found-gt-MOST_KEY_NODES.true)

pub loop-v-preserved : goal.loop-v-preserved
loop-v-preserved c = (search rules, counted (goal.at.loop-v-preserved c).After-from-found)

pub returns : goal.returns
returns c =
    let l = c.loop-v in
    let all : l.v ≡ suc c.args.net.vertex_count =
    omega (arith, l.auto.v-end, c.loop-v-test.false, length-take (c.args.net.vertex_count + 1) c.args.keys.now, c.told-keys, c.requires.0) in
    key_missing c.args.net _ c.requires.1 l.v all c.requires.0 (rw c.loop-v.invariant.1 at c.loop-v.invariant.0)
