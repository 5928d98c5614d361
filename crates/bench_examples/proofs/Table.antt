-- The examples that document 01 marks P hold of the definitions: one table, one theorem, by computing.
use mathlib.Core.Path.{◌≡◌, refl}
use mathlib.Core.List.{map}
use Rattle.bench_examples.specs.Table.{Example, answer_to, bench_examples}
use Rattle.bench_examples.proofs.Opened.{opened}

pub examples : map (λ (e : Example). answer_to e.question) bench_examples ≡ map (λ (e : Example). e.expected) bench_examples
unfolding opened answer_to
examples = refl
