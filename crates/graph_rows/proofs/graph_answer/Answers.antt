-- The rows in turn: the first place found answers.
use mathlib.Core.Path.{◌≡◌, sym, ◌∙◌}
use Rattle.std.specs.Prelude.{None}
use Rattle.sheet.specs.Graph.{partner_place, key_place}
use Rattle.sheet.specs.Search.{found_of}
use Rattle.sheet.proofs.GraphLaws.{answer_21, answer_22, answer_23, answer_none}
use Rattle.graph_rows.proofs.graph_answer.Goals as goal
use Rattle.graph_rows.proofs.graph_answer.Goals.{In_default, In_default-key}

no-partner : (c : In_default) → found_of (partner_place c.args.net) ≡ None
no-partner c = sym c.partner_place-partner.ensures ∙ c.in_default.is

no_key : (c : In_default-key) → found_of (key_place c.args.net) ≡ None
no_key c = sym c.key_row-key.ensures ∙ c.in_default-key.is

pub returns-in-Some : goal.returns-in-Some
returns-in-Some c = answer_21 _ _ (sym c.partner_place-partner.ensures ∙ c.in-Some.is)

pub returns-in-Some-key : goal.returns-in-Some-key
returns-in-Some-key c =
    answer_22 _ _ (no-partner (goal.at.returns-in-Some-key c).In_default) (sym c.key_row-key.ensures ∙ c.in-Some-key.is)

pub returns-in-Some-signal : goal.returns-in-Some-signal
returns-in-Some-signal c =
    answer_23 _ _ (no-partner (goal.at.returns-in-Some-signal c).In_default) (no_key (goal.at.returns-in-Some-signal c).In_default-key) (sym c.signal_row-signal.ensures ∙ c.in-Some-signal.is)

pub returns : goal.returns
returns c =
    answer_none _ (no-partner (goal.at.returns c).In_default) (no_key (goal.at.returns c).In_default-key) (sym c.signal_row-signal.ensures ∙ c.in_default-signal.is)
