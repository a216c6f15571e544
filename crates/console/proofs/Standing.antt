-- What a session is after a call that may fail.
use Rattle.std.proofs.Common.{◌≡◌, ℕ, ◌<◌, List, length, Some, Ok, Err, Result, ap, ap₂, sym, subst, ◌∙◌}
use Rattle.std.specs.Option.{option_map}
use Rattle.std.specs.FinMap.{insert}
use Rattle.std.specs.Result.{OnOk, OnErr}
use Rattle.std.proofs.lemmas.Result.{on_ok_weaker}
use Rattle.pairs.specs.Product.{pair_of}
use Rattle.console.specs.declared.part.Part.{Part}
use Rattle.console.specs.declared.named.Named.TheVariants as named
use Rattle.console.specs.Stations.{part_automaton, named_automaton}
use Rattle.console.specs.Names.{Contents, Joined, Kept, Whole, defined, joined, made_from, parts_of, stands}
use Rattle.console.specs.Laws.Standing.{defined_stands, defined_kept, defined_whole, joined_stands, joined_kept, joined_whole, numbered_stands, numbered_kept, numbered_whole, below_there, same_automaton}

-- whatever the answer
either_way : {A E : Type 0} (r : Result (Unit {0}) E) (old new : Contents) → (A → Whole old → Whole new) → OnOk r A → OnErr r (new ≡ old) → Whole old → Whole new
either_way (Ok x) old new then ok err whole = then ok whole
either_way (Err e) old new then ok err whole = subst Whole (sym err) whole

module _ {E : Type 0} (r : Result (Unit {0}) E) (old new : Contents) (name : List ℕ) where
  module _ (p : Part) (ok : OnOk r (new ≡ defined old name p)) where
    pub after_define : OnOk r ((stands new name ≡ Some (named.Part p)) × Kept name old new)
    after_define = on_ok_weaker r (λ is. subst (λ s. (stands s name ≡ Some (named.Part p)) × Kept name old s) (sym is) (defined_stands old name p, defined_kept old name p)) ok

    pub whole_define : OnErr r (new ≡ old) → Whole old → Whole new
    whole_define err = either_way r old new (λ is whole. subst Whole (sym is) (defined_whole old name p whole)) ok err

  module _ (l q left right : Part) (ok : OnOk r (new ≡ joined old name l q)) (a : made_from l ≡ made_from left) (b : made_from q ≡ made_from right) where
    pub ok_join : OnOk r (Joined old name left right new)
    ok_join = on_ok_weaker r (λ is. record { l = l; r = q; left_same = a; right_same = b; is = is }) ok

    pub after_join : OnOk r ((option_map named_automaton (stands new name) ≡ Some (pair_of (part_automaton left) (part_automaton right))) × Kept name old new)
    after_join =
        on_ok_weaker r (λ is. subst (λ s. (option_map named_automaton (stands s name) ≡ Some (pair_of (part_automaton left) (part_automaton right))) × Kept name old s) (sym is)
        (ap (option_map named_automaton) (joined_stands old name l q) ∙ ap₂ (λ A B. Some (pair_of A B)) (same_automaton l left a) (same_automaton q right b), joined_kept old name l q)) ok

    pub whole_join : OnErr r (new ≡ old) → Whole old → Whole new
    whole_join err = either_way r old new (λ is whole. subst Whole (sym is) (joined_whole old name l q whole)) ok err

  module _ (i j : ℕ) (parts : new.parts ≡ old.parts) (names : OnOk r (new.names ≡ insert old.names name (named.Pair i j))) where
    pub after_join_parts : OnOk r ((stands new name ≡ parts_of old.parts (named.Pair i j)) × Kept name old new)
    after_join_parts = on_ok_weaker r (λ is. (numbered_stands old new name (named.Pair i j) parts is, numbered_kept old new name (named.Pair i j) parts is)) names

    pub whole_join_parts : OnErr r (new ≡ old) → Whole old → i < length old.parts → j < length old.parts → Whole new
    whole_join_parts err whole a b =
        let there = below_there old.parts i j a b in
        either_way r old new (λ is. numbered_whole old new name (named.Pair i j) parts is there.0 there.1) names err whole
