-- Lines written one after the other, and the sheet that they were read from.
use Prim.Native.Nat.{ℕ, zero, suc, ◌+◌, ◌*◌, ◌<◌}
use native.Mathlib.Nat.{add-zero, add-suc, suc-add}
use native.Mathlib.Omega.{arith}
use mathlib.Core.Path.{◌≡◌, refl, sym, ap, ap₂, ◌∙◌}
use mathlib.Core.List.{List, [], ◌++◌, append_assoc}
use lib.ListN.{take, drop}
use Rattle.ternary.specs.Lists.{table}
use Rattle.net.specs.declared.Vertex.{Vertex}
use Rattle.net.specs.declared.Edge.{Edge}
use Rattle.sheet.specs.declared.Line.{Line}
use Rattle.sheet.specs.Limits.{line_bytes}
use Rattle.sheet.specs.Line.{write_line}
use Rattle.sheet.specs.Writing.{vertex_line, edge_line, vertex_lines, edge_lines}
use Rattle.sheet.proofs.LineLaws.{piece-rest}

-- lines g 0 to g (m - 1)
unfoldable pub joined : ℕ → ℕ → (ℕ → Line) → List ℕ
joined w zero g = []
joined w (suc m) g = write_line w (g 0) ++ joined w m (λ i. g (suc i))

pub vertex_lines_lem : (w m k : ℕ) (f : ℕ → Vertex) → vertex_lines w k (table m f) ≡ joined w m (λ i. vertex_line (k + i) (f i))
unfolding joined vertex_lines table
vertex_lines_lem w zero k f = refl
vertex_lines_lem w (suc m) k f =
    ap₂ (λ (l r : List ℕ). l ++ r) (ap (λ (n : ℕ). write_line w (vertex_line n (f 0))) (sym (add-zero k)))
    (vertex_lines_lem w m (suc k) (λ i. f (suc i)) ∙ ap (joined w m) (λ t i. vertex_line ((suc-add k i ∙ sym (add-suc k i)) t) (f (suc i))))

pub edge_lines_lem : (w m : ℕ) (f : ℕ → Edge) → edge_lines w (table m f) ≡ joined w m (λ i. edge_line (f i))
unfolding joined edge_lines table
edge_lines_lem w zero f = refl
edge_lines_lem w (suc m) f = ap (λ (l : List ℕ). write_line w (edge_line (f 0)) ++ l) (edge_lines_lem w m (λ i. f (suc i)))

-- m lines from line n on, and what follows them
pub lines_back : (w : ℕ) (b : List ℕ) (m n : ℕ) (g : ℕ → Line) → ((i : ℕ) → i < m → write_line w (g i) ≡ take (line_bytes w) (drop (line_bytes w * (n + i)) b))
    → joined w m g ++ drop (line_bytes w * (n + m)) b ≡ drop (line_bytes w * n) b
unfolding joined
lines_back w b zero n g same = rw (add-zero n)
lines_back w b (suc m) n g same =
    let first : write_line w (g 0) ≡ take (line_bytes w) (drop (line_bytes w * n) b) = rw (add-zero n) at (same 0 (omega arith)) in
    let later = lines_back w b m (suc n) (λ i. g (suc i)) (λ i h. rw (add-suc n i, ← (suc-add n i)) at (same (suc i) (omega arith))) in
    append_assoc (write_line w (g 0)) (joined w m (λ i. g (suc i))) _
    ∙ ap₂ (λ (l r : List ℕ). l ++ r) first (rw (add-suc n m, ← (suc-add n m)) later)
    ∙ piece-rest (line_bytes w) b n
