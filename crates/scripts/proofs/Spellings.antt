-- A deadline with a word that is no number.
use Rattle.std.proofs.Common.{◌≡◌, ℕ, ◌+◌, ◌-◌, ◌<◌, ◌≤◌, List, [], map, length, get_or, take, drop, Result, Bor, inl, ap, sym, subst, ◌∙◌, arith}
use Rattle.std.proofs.lemmas.List.{get_or-map, get_or-drop, take_rest}
use Rattle.std.proofs.lemmas.Result.{err_from_is_err_and}
use Rattle.std.specs.Result.{IsErrAnd}
use Rattle.scripts.specs.declared.fault.Fault.{Fault}
use Rattle.scripts.specs.declared.fault.Fault.TheVariants.{Number}
use Rattle.scripts.specs.declared.statement.Keyword.{Keyword}
use Rattle.scripts.specs.declared.statement.Keyword.TheVariants.{Deadline}
use Rattle.scripts.specs.declared.statement.Statement.{Statement}
use Rattle.scripts.specs.Numbers.{Written}
use Rattle.scripts.specs.Spelling.{spelling, word_at, Read}

-- what stands past the last word
abbrev none : Bor (List ℕ)
none = record { ref_ptr = (0, 0); now = [] }

-- word k of those after the first
abbrev pub later : List (Bor (List ℕ)) → ℕ → List ℕ
later ws k = (get_or (take (length ws - 1) (drop 1 ws)) k none).now

later_is : (ws : List (Bor (List ℕ))) (k : ℕ) → 1 + k < length ws → word_at (map (λ x. x.now) ws) (1 + k) ≡ later ws k
later_is ws k within = get_or-map (λ x. x.now) ws (1 + k) none [] within ∙ ap (λ x. x.now) (sym (get_or-drop 1 ws k none)) ∙ ap (λ xs. (get_or xs k none).now) (sym (take_rest ws 1))

pub no_number : (ws : List (Bor (List ℕ))) (k : ℕ) (r : Result Statement Fault) (e : Fault) (first : Keyword) → 1 ≤ k → k < 5 → 1 + k < length ws → (get_or ws 0 none).now ≡ spelling first → first ≡ Deadline
    → IsErrAnd r (λ y. y ≡ e) → (e ≡ Number) × (Written (later ws k) → ⊥) → Read (map (λ x. x.now) ws) r
no_number ws k r e first low high within is same refused told =
    let p = err_from_is_err_and r refused in
    rw (p.1, p.2, told.0) (inl (
      get_or-map (λ x. x.now) ws 0 none [] (omega arith) ∙ is ∙ ap spelling same,
      1 + k,
      omega arith,
      omega arith,
      λ written. told.1 (subst Written (later_is ws k within) written),
    ))
