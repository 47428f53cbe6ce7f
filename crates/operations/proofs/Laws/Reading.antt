-- The pairs read from a snapshot that holds a tree of a map are that map's.
use Rattle.std.specs.Prelude.{◌≡◌, refl, List, [], ◌∷◌, ◌++◌, true, ℕ, zero, suc, ◌+◌, ◌<◌}
use Rattle.std.proofs.Common.{ap, sym, ◌∙◌, inl, inr, arith}
use Rattle.operations.specs.Object.{Obj, meta, node, flag, Val, taken, keys_in, level_of, slots_in, root_of}
use Rattle.operations.specs.Map.{Map, two_to_64}
use Rattle.operations.specs.Entry.{vals, zip, node_value, first_key_or}
use Rattle.operations.specs.Chain.{Chain, one, tally, gather, ren}
use Rattle.operations.proofs.Laws.Chain.{one_same}
use Rattle.operations.specs.Tree.{Slot, word, cnt, pairs, Entry, Mark, HoldsTree}
use Rattle.operations.proofs.Laws.Maps.{leaf_pairs, leaf_words}
use Rattle.operations.proofs.Laws.Down.{zip_keys}
use Rattle.operations.proofs.Laws.Found.{level_mk}
use Rattle.operations.specs.Reading.{all_pairs, pairs_below, map_of}

-- Read by a function N' that agrees with N on the names that occur, the pairs are the tree's.
below_is : (N N' : ℕ → Val) (l n b : ℕ) (es : List (ℕ × Slot l)) → Chain (Entry N l) b es → N' n ≡ node_value l (ren (word l) es)
    → ((x : ℕ) → 0 < tally (cnt l) es x → N' x ≡ N x) → pairs_below l N' n ≡ gather (pairs l) es
below_is N N' zero n b es c e h = ap (λ v. zip (keys_in v) (slots_in v)) e ∙ zip_keys (ren (word zero) es) ∙ leaf_words es ∙ sym (leaf_pairs es)
below_is N N' (suc l) n b es c e h = ap (λ v. all_pairs (pairs_below l N') (slots_in v)) e ∙ go b es c h (λ n b es c e h. below_is N N' l n b es c e h)
  where
    go : (b : ℕ) (es : List (ℕ × Slot (suc l))) → Chain (Entry N (suc l)) b es → ((x : ℕ) → 0 < tally (cnt (suc l)) es x → N' x ≡ N x)
        → ((n b : ℕ) (es : List (ℕ × Slot l)) → Chain (Entry N l) b es → N' n ≡ node_value l (ren (word l) es)
        → ((x : ℕ) → 0 < tally (cnt l) es x → N' x ≡ N x) → pairs_below l N' n ≡ gather (pairs l) es)
        → all_pairs (pairs_below l N') (vals (ren (word (suc l)) es)) ≡ gather (pairs (suc l)) es
    go b [] c h rec = refl
    go b (y ∷ es) c h rec =
        let name = y.1.0 in
        let here : N' name ≡ N name = h name (omega (arith, one_same name)) in
        ap (λ z. z ++ all_pairs (pairs_below l N') (vals (ren (word (suc l)) es)))
        (rec name (first_key_or es b) y.1.1 c.0.segs (here ∙ c.0.at) (λ x q. h x (omega arith)))
        ∙ ap (λ z. pairs (suc l) y.0 y.1 ++ z) (go b es c.1 (λ x q. h x (omega arith)) rec)

-- A snapshot that holds a map holds that one only, and it is read off, by the nodes whose flags are taken.
pub read_is : (M : Obj → Val) (m : Map) → HoldsTree M m → (N : ℕ → Val) → ((x : ℕ) → M (flag x) ≡ taken true → N x ≡ M (node x))
    → pairs_below (level_of (N (root_of (M meta)))) N (root_of (M meta)) ≡ m
read_is M m h N same =
    ap (λ r. pairs_below (level_of (N r)) N r) (ap root_of h.root_is)
    ∙ ap (λ l. pairs_below l N h.name) (ap level_of at ∙ level_mk h.level (ren (word h.level) h.ents))
    ∙ below_is (λ n. M (node n)) N h.level h.name two_to_64 h.ents h.segs at (λ x q. there x (omega arith))
    ∙ h.pairs_are
  where
    there : (x : ℕ) → 0 < one h.name x + tally (cnt h.level) h.ents x → N x ≡ M (node x)
    there x q = go (h.marks x)
      where
        go : Mark (M (flag x)) (M (node x)) (one h.name x + tally (cnt h.level) h.ents x) → N x ≡ M (node x)
        go (inl t) = same x t.1
        go (inr t) = absurd (omega (arith, t.0))

    at : N h.name ≡ node_value h.level (ren (word h.level) h.ents)
    at = there h.name (omega (arith, one_same h.name)) ∙ h.stored

pub map_is : (M : Obj → Val) (m : Map) → HoldsTree M m → map_of M ≡ m
map_is M m h = read_is M m h (λ n. M (node n)) (λ x _. refl)
