-- Lookup, next, previous and list on a snapshot that holds a tree.
use Rattle.std.specs.Prelude.{◌≡◌, List, [], ◌∷◌, ◌++◌, reverse, ℕ, zero, suc, ◌<◌, leb, length, take}
use Rattle.std.proofs.Common.{ap, sym, ◌∙◌, subst, append-nil, append_assoc, arith, leb-true}
use Rattle.std.proofs.Math.Decide.{dec_lt, dec_le}
use Rattle.std.proofs.lemmas.List.{take-append-le}
use Rattle.operations.specs.Object.{Obj, node, Val, Ans, Writes}
use Rattle.operations.specs.Map.{Map, look, above, below, upward, said, listed, two_to_64}
use Rattle.operations.specs.Entry.{Entries, keys, first_key_or, value_in, above_in, below_in}
use Rattle.operations.specs.Look.{lookup_plan, Search, Onward, told, enough, Visit, rightward, leftward, seek, seek_up, from_leaf, one_of, next_plan, previous_plan, list_plan, listing}
use Rattle.operations.proofs.Laws.Chain.{Rising, chain_rising}
use Rattle.operations.specs.Chain.{Chain, gather, ren}
use Rattle.operations.proofs.Laws.Picked.{picked, picked_app, picked_back, above_nearest, below_nearest, upward_is}
use Rattle.operations.proofs.Laws.Places.{look_is, above_is, below_is, drop_is}
use Rattle.operations.proofs.Laws.Ensures.{Terms, Ok, cond_ok}
use Rattle.operations.specs.Tree.{Slot, word, pairs, Entry}
use Rattle.operations.proofs.Laws.Focus.{entry_rise, Path, top, frame, hi, left, right, Ctx, Rep, Ends}
use Rattle.operations.proofs.Laws.Maps.{keys_map, leaf_pairs, leaf_words, look_mid, picked_none}
use Rattle.operations.proofs.Laws.Down.{branches, kid_ok, Site, site_rising, site_left, site_right, site_map, root_ok}

module _ (F : Terms) (M : Obj → Val) (m : Map) (key : ℕ) (small : key < two_to_64) (R : Rep M m) where
  abbrev N : ℕ → Val
  N n = M (node n)

  pub lookup_ok : Ok F (Ends M m (said (look key m))) M (lookup_plan key)
  lookup_ok = root_ok M m key F (Ends M m (said (look key m))) _ at R
    where
      at : (p : Path zero) (es : Entries) → Site M m key zero p es → Ends M m (said (look key m)) (said (value_in key es)) []
      at p es s = (
        ap said (look_is key (first_key_or es (hi zero p)) (hi zero p) es (site_rising M m key zero p es s)
            ∙ sym (look_mid key (left zero p) es (right zero p) (site_left M m key zero p es small s) (site_right M m key zero p es small s))
            ∙ ap (look key) (site_map M m key p es s)),
        R,
      )

  -- LEAVES IN A ROW: what a leaf gives is what g finds in its pairs, and `all` is what g finds in the map
  module _ (q : Search) (g : Map → Entries) (same : (a z : ℕ) (es : Entries) → Rising a z (keys es) → q.in_leaf es ≡ g es) (all : Entries) where
    abbrev Q : Ans → Writes → Type 0
    Q = Ends M m (q.answer (take q.wanted all))

    -- with these found, and those yet to be found
    abbrev After : Entries → Onward → Type 0
    After rest on = (found : Entries) → found ++ rest ≡ all → Ok F Q M (on found)

    told_ok : After [] (told q)
    told_ok found h = (ap (λ l. q.answer (take q.wanted l)) (sym (append-nil found) ∙ h), R)

    enough_ok : (rest : Entries) (on : Onward) → After rest on → After rest (enough q on)
    enough_ok rest on k found h = cond_ok F Q M (leb q.wanted (length found)) (told q found) (on found)
        (λ t. (ap q.answer (sym (take-append-le q.wanted found rest (leb-true q.wanted (length found) t)) ∙ ap (take q.wanted) h), R)) (λ _. k found h)

    -- what is asked of one subtree, and of the way in which several are visited
    abbrev Each : (ℕ → ℕ → Onward → Onward) → ℕ → Type 0
    Each v l = (k b : ℕ) (s : Slot (suc l)) (rest : Entries) (on : Onward) → Entry N (suc l) k b s → After rest on → After (g (pairs (suc l) k s) ++ rest) (v k s.0 on)

    abbrev Visits : Visit → Type 0
    Visits t = (v : ℕ → ℕ → Onward → Onward) (l b : ℕ) (es : List (ℕ × Slot (suc l))) (rest : Entries) (on : Onward) → Each v l → Chain (Entry N (suc l)) b es
        → After rest on → After (g (gather (pairs (suc l)) es) ++ rest) (t v (ren (word (suc l)) es) on)

    leaf_same : (b : ℕ) (es : Entries) → Chain (Entry N zero) b es → q.in_leaf (ren (word zero) es) ≡ g (gather (pairs zero) es)
    leaf_same b es c = ap q.in_leaf (leaf_words es) ∙ same (first_key_or es b) b es (chain_rising (Entry N zero) (entry_rise N zero) b es c) ∙ ap g (sym (leaf_pairs es))

    seek_ok : (t : Visit) → Visits t → (l : ℕ) → Each (seek q t l) l
    seek_ok t tr zero k b s rest on e c found h =
        kid_ok F Q M [] zero k b s.0 s.1 (λ es. enough q on (found ++ q.in_leaf es)) e.at e.from e.least
        (enough_ok rest on c (found ++ q.in_leaf (ren (word zero) s.1))
        (append_assoc found (q.in_leaf (ren (word zero) s.1)) rest ∙ ap (λ z. found ++ (z ++ rest)) (leaf_same b s.1 e.segs) ∙ h))
    seek_ok t tr (suc l) k b s rest on e c found h =
        kid_ok F Q M [] (suc l) k b s.0 s.1 (λ es. t (seek q t l) es on found) e.at e.from e.least
        (tr (seek q t l) l b s.1 rest on (seek_ok t tr l) e.segs c found h)

  -- to the right: the pairs that are picked
  module _ {P : ℕ → Type 0} (d : (x : ℕ) → Dec (P x)) (q : Search) (same : (a z : ℕ) (es : Entries) → Rising a z (keys es) → q.in_leaf es ≡ picked d es) (all : Entries) where
    parts : (a b rest : Entries) → picked d (a ++ b) ++ rest ≡ picked d a ++ (picked d b ++ rest)
    parts a b rest = ap (λ z. z ++ rest) (picked_app d a b) ∙ append_assoc (picked d a) (picked d b) rest

    right_visits : Visits q (picked d) same all rightward
    right_visits v l b [] rest on e c k found h = k found h
    right_visits v l b (s ∷ es) rest on e c k found h =
        e s.0 (first_key_or es b) s.1 (picked d (gather (pairs (suc l)) es) ++ rest) (rightward v (ren (word (suc l)) es) on) c.0
        (right_visits v l b es rest on e c.1 k) found (ap (λ z. found ++ z) (sym (parts (pairs (suc l) s.0 s.1) (gather (pairs (suc l)) es) rest)) ∙ h)

    right_up : (l : ℕ) (p : Path l) → Ctx N l p → After q (picked d) same all (picked d (right l p)) (seek_up q rightward (λ f. f.post) l (branches l p))
    right_up l (top r) c found h = told_ok q (picked d) same all found h
    right_up l (frame k n pre post p) c found h =
        right_visits (seek q rightward l) l (hi (suc l) p) post (picked d (right (suc l) p)) (seek_up q rightward (λ f. f.post) (suc l) (branches (suc l) p))
        (seek_ok q (picked d) same all rightward right_visits l) c.1 (right_up (suc l) p c.4) found
        (ap (λ z. found ++ z) (sym (picked_app d (gather (pairs (suc l)) post) (right (suc l) p))) ∙ h)

  -- none on the left is picked
  right_ok : {P : ℕ → Type 0} (d : (x : ℕ) → Dec (P x)) (q : Search) → ((a z : ℕ) (es : Entries) → Rising a z (keys es) → q.in_leaf es ≡ picked d es)
      → ((x : ℕ) → x < key → ¬ P x) → Ok F (Ends M m (q.answer (take q.wanted (picked d m)))) M (from_leaf q rightward (λ f. f.post) key)
  right_ok d q same low = root_ok M m key F (Ends M m (q.answer (take q.wanted (picked d m)))) _ at R
    where
      at : (p : Path zero) (es : Entries) → Site M m key zero p es
          → Ok F (Ends M m (q.answer (take q.wanted (picked d m)))) M (enough q (seek_up q rightward (λ f. f.post) zero (branches zero p)) (q.in_leaf es))
      at p es s =
          enough_ok q (picked d) same (picked d m) (picked d (right zero p)) (seek_up q rightward (λ f. f.post) zero (branches zero p)) (right_up d q same (picked d m) zero p s.focus.ctx)
          (q.in_leaf es)
          (ap (λ z. z ++ picked d (right zero p)) (same (first_key_or es (hi zero p)) (hi zero p) es (site_rising M m key zero p es s))
          ∙ sym (picked_app d es (right zero p))
          ∙ ap (λ z. z ++ picked d (es ++ right zero p)) (sym (picked_none d (left zero p) (keys_map _ _ low (left zero p) (site_left M m key zero p es small s))))
          ∙ sym (picked_app d (left zero p) (es ++ right zero p)) ∙ ap (picked d) (site_map M m key p es s))

  -- to the left: the same from the other end
  module _ {P : ℕ → Type 0} (d : (x : ℕ) → Dec (P x)) where
    abbrev back : Map → Entries
    back m = reverse (picked d m)

    module _ (q : Search) (same : (a z : ℕ) (es : Entries) → Rising a z (keys es) → q.in_leaf es ≡ back es) (all : Entries) where
      left_visits : Visits q back same all leftward
      left_visits v l b [] rest on e c k found h = k found h
      left_visits v l b (s ∷ es) rest on e c k found h =
          left_visits v l b es (back (pairs (suc l) s.0 s.1) ++ rest) (v s.0 (word (suc l) s.1) on) e c.1
          (e s.0 (first_key_or es b) s.1 rest on c.0 k) found
          (ap (λ z. found ++ z) (sym (append_assoc (back (gather (pairs (suc l)) es)) (back (pairs (suc l) s.0 s.1)) rest)
          ∙ ap (λ z. z ++ rest) (sym (picked_back d (pairs (suc l) s.0 s.1) (gather (pairs (suc l)) es)))) ∙ h)

      left_up : (l : ℕ) (p : Path l) → Ctx N l p → After q back same all (back (left l p)) (seek_up q leftward (λ f. f.pre) l (branches l p))
      left_up l (top r) c found h = told_ok q back same all found h
      left_up l (frame k n pre post p) c found h =
          left_visits (seek q leftward l) l k pre (back (left (suc l) p)) (seek_up q leftward (λ f. f.pre) (suc l) (branches (suc l) p))
          (seek_ok q back same all leftward left_visits l) c.0 (left_up (suc l) p c.4) found
          (ap (λ z. found ++ z) (sym (picked_back d (left (suc l) p) (gather (pairs (suc l)) pre))) ∙ h)

    -- none on the right is picked
    left_ok : (q : Search) → ((a z : ℕ) (es : Entries) → Rising a z (keys es) → q.in_leaf es ≡ back es) → ((x : ℕ) → key < x → ¬ P x)
        → Ok F (Ends M m (q.answer (take q.wanted (back m)))) M (from_leaf q leftward (λ f. f.pre) key)
    left_ok q same high = root_ok M m key F (Ends M m (q.answer (take q.wanted (back m)))) _ at R
      where
        at : (p : Path zero) (es : Entries) → Site M m key zero p es
            → Ok F (Ends M m (q.answer (take q.wanted (back m)))) M (enough q (seek_up q leftward (λ f. f.pre) zero (branches zero p)) (q.in_leaf es))
        at p es s =
            enough_ok q back same (back m) (back (left zero p)) (seek_up q leftward (λ f. f.pre) zero (branches zero p)) (left_up q same (back m) zero p s.focus.ctx) (q.in_leaf es)
            (ap (λ z. z ++ back (left zero p)) (same (first_key_or es (hi zero p)) (hi zero p) es (site_rising M m key zero p es s)
            ∙ ap (λ z. reverse z ++ back es) (sym (picked_none d (right zero p) (keys_map _ _ high (right zero p) (site_right M m key zero p es small s))))
            ∙ sym (picked_back d es (right zero p)))
            ∙ sym (picked_back d (left zero p) (es ++ right zero p)) ∙ ap back (site_map M m key p es s))

  pub next_ok : Ok F (Ends M m (said (above key m))) M (next_plan key)
  next_ok = subst (λ a. Ok F (Ends M m a) M (next_plan key)) (above_nearest key (dec_le (suc key)) m) (right_ok (dec_le (suc key)) (one_of (above_in key)) (above_is key) (λ x h p. omega (arith, h, p)))

  pub previous_ok : Ok F (Ends M m (said (below key m))) M (previous_plan key)
  previous_ok = subst (λ a. Ok F (Ends M m a) M (previous_plan key)) (below_nearest key m) (left_ok (λ x. dec_lt x key) (one_of (below_in key)) (below_is key) (λ x h p. omega (arith, h, p)))

  pub list_ok : (n : ℕ) → Ok F (Ends M m (listed (take n (upward key m)))) M (list_plan key n)
  list_ok n = subst (λ l. Ok F (Ends M m (listed (take n l))) M (list_plan key n)) (sym (upward_is key m))
      (right_ok (dec_le key) (listing key n) (drop_is key) (λ x h p. omega (arith, h, p)))
