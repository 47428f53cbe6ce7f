-- The form of a held tree on which operations work: a path round a hole, and a focus (the path with new contents of the hole).
use Rattle.std.specs.Prelude.{◌≡◌, false, List, [], ◌∷◌, ◌++◌, ℕ, zero, suc, ◌+◌, ◌<◌, ◌≤◌, length}
use Rattle.std.proofs.Common.{ap, sym, ◌∙◌, subst, true≢false, append-nil, inl, inr, arith}
use Rattle.operations.specs.Object.{Obj, meta, node, flag, Val, root, taken, states_of, is_taken, free, Ans, Writes, with_value, over}
use Rattle.operations.specs.Map.{Map, two_to_64}
use Rattle.operations.proofs.Laws.Map.{HPos}
use Rattle.operations.specs.Entry.{node_value, fewest_entries, most_entries, first_key_or}
use Rattle.operations.specs.Chain.{one, Chain, tally, gather, ren}
use Rattle.operations.proofs.Laws.Chain.{one_same, chain_frame}
use Rattle.operations.proofs.Laws.Ensures.{sel_other}
use Rattle.operations.specs.Tree.{room, Slot, word, cnt, pairs, Starts, Entry, bottom, Mark, HoldsTree}

pub entry_rise : (N : ℕ → Val) (l k b : ℕ) (s : Slot l) → Entry N l k b s → k < b
entry_rise N zero k b s h = h
entry_rise N (suc l) k b s h = h.rise

pub entry_frame : (N O : ℕ → Val) (l k b : ℕ) (s : Slot l) → ((x : ℕ) → 1 ≤ cnt l s x → N x ≡ O x) → Entry N l k b s → Entry O l k b s
entry_frame N O zero k b s g h = h
entry_frame N O (suc l) k b s g h = record {
  at = sym (g s.0 (omega (arith, one_same s.0))) ∙ h.at;
  least = h.least;
  most = h.most;
  from = h.from;
  rise = h.rise;
  segs = chain_frame (Entry N l) (Entry O l) (cnt l) N O (λ k b t. entry_frame N O l k b t) b s.1 (λ x i. g x (omega arith)) h.segs;
}

-- what is round a hole of level l: nothing above the root's name; or the key and name of the hole, the entries before and after it in its
-- parent, and the path above
pub data Path : ℕ → Type 0 where
  top : {l : ℕ} → ℕ → Path l
  frame : {l : ℕ} (k c : ℕ) (pre post : List (ℕ × Slot (suc l))) → Path (suc l) → Path l

-- the hole: its name, its bounds
abbrev pub nm : (l : ℕ) → Path l → ℕ
nm l (top r) = r
nm l (frame k c pre post p) = c

abbrev pub lo : (l : ℕ) → Path l → ℕ
lo l (top r) = 0
lo l (frame k c pre post p) = k

abbrev pub hi : (l : ℕ) → Path l → ℕ
hi l (top r) = two_to_64
hi l (frame k c pre post p) = first_key_or post (hi (suc l) p)

abbrev pub root_lev : (l : ℕ) → Path l → ℕ
root_lev l (top r) = l
root_lev l (frame k c pre post p) = root_lev (suc l) p

abbrev pub root_nm : (l : ℕ) → Path l → ℕ
root_nm l (top r) = r
root_nm l (frame k c pre post p) = root_nm (suc l) p

-- names round the hole, the hole's not counted
abbrev pub around : (l : ℕ) → Path l → ℕ → ℕ
around l (top r) x = 0
around l (frame k c pre post p) x = tally (cnt (suc l)) pre x + tally (cnt (suc l)) post x + one (nm (suc l) p) x + around (suc l) p x

abbrev pub left : (l : ℕ) → Path l → Map
left l (top r) = []
left l (frame k c pre post p) = left (suc l) p ++ gather (pairs (suc l)) pre

abbrev pub right : (l : ℕ) → Path l → Map
right l (top r) = []
right l (frame k c pre post p) = gather (pairs (suc l)) post ++ right (suc l) p

abbrev pub floor : (l : ℕ) → Path l → ℕ
floor l (top r) = bottom l
floor l (frame k c pre post p) = fewest_entries l

abbrev pub Ctx : (ℕ → Val) → (l : ℕ) → Path l → Type 0
Ctx N l (top r) = Unit {0}
Ctx N l (frame k c pre post p) = Chain (Entry N (suc l)) k pre × Chain (Entry N (suc l)) (hi (suc l) p) post × (first_key_or pre k ≡ lo (suc l) p)
    × (lo (suc l) p < hi (suc l) p) × Ctx N (suc l) p

-- the inner nodes of the path are in the memory, with allowed sizes
abbrev pub Stored : (ℕ → Val) → (l : ℕ) → Path l → Type 0
Stored N l (top r) = Unit {0}
Stored N l (frame k c pre post p) = (N (nm (suc l) p) ≡ node_value (suc l) (ren (word (suc l)) pre ++ ((k, c) ∷ ren (word (suc l)) post)))
    × (floor (suc l) p ≤ suc (length pre + length post)) × (suc (length pre + length post) ≤ most_entries (suc l)) × Stored N (suc l) p

-- those but the lowest
abbrev pub Above : (ℕ → Val) → (l : ℕ) → Path l → Type 0
Above N l (top r) = Unit {0}
Above N l (frame k c pre post p) = Stored N (suc l) p

-- In the snapshot U, with the entries es in the hole and the spare names sp, everything round the hole is in order, and the pairs are m. The
-- hole's own node need not be stored, and the number of its entries is not part of it.
pub record Focus (U : Obj → Val) (l : ℕ) (p : Path l) (es : List (ℕ × Slot l)) (sp : ℕ → ℕ) (m : Map) : Type 0 where
  pub lev : root_lev l p ≤ 4
  pub top_is : U meta ≡ root (root_nm l p) (states_of (U meta))
  pub inside : (x : ℕ) → room ≤ x → U (flag x) ≡ taken false
  pub ctx : Ctx (λ n. U (node n)) l p
  pub above : Above (λ n. U (node n)) l p
  pub segs : Chain (Entry (λ n. U (node n)) l) (hi l p) es
  pub from : Starts l (lo l p) (first_key_or es (hi l p))
  pub rise : lo l p < hi l p
  pub marks : (x : ℕ) → Mark (U (flag x)) (U (node x)) (around l p x + one (nm l p) x + tally (cnt l) es x + sp x)
  pub holds : left l p ++ (gather (pairs l) es ++ right l p) ≡ m

abbrev pub nil : ℕ → ℕ
nil x = 0

-- a held tree as the focus at its root
pub record Rep (U : Obj → Val) (m : Map) : Type 0 where
  pub level : ℕ
  pub name : ℕ
  pub ents : List (ℕ × Slot level)
  pub tree : Focus U level (top name) ents nil m
  pub stored : U (node name) ≡ node_value level (ren (word level) ents)
  pub least : bottom level ≤ length ents
  pub most : length ents ≤ most_entries level

pub rep_of : (M : Obj → Val) (m : Map) → HoldsTree M m → Rep M m
rep_of M m h = record {
  level = h.level;
  name = h.name;
  ents = h.ents;
  tree = record {
    lev = h.low;
    top_is = h.root_is;
    inside = h.inside;
    ctx = tt;
    above = tt;
    segs = h.segs;
    from = h.from;
    rise = HPos;
    marks = λ x. subst (Mark (M (flag x)) (M (node x))) (omega arith) (h.marks x);
    holds = append-nil (gather (pairs h.level) h.ents) ∙ h.pairs_are;
  };
  stored = h.stored;
  least = h.least;
  most = h.most;
}

pub holds_of : (M : Obj → Val) (m : Map) → Rep M m → HoldsTree M m
holds_of M m R = record {
  level = R.level;
  name = R.name;
  ents = R.ents;
  root_is = R.tree.top_is;
  low = R.tree.lev;
  stored = R.stored;
  least = R.least;
  most = R.most;
  from = R.tree.from;
  segs = R.tree.segs;
  marks = λ x. subst (Mark (M (flag x)) (M (node x))) (omega arith) (R.tree.marks x);
  inside = R.tree.inside;
  pairs_are = sym (append-nil (gather (pairs R.level) R.ents)) ∙ R.tree.holds;
}

-- the answer is a, and the snapshot with the writes holds m
abbrev pub Ends : (Obj → Val) → Map → Ans → Ans → Writes → Type 0
Ends M m a b w = (b ≡ a) × Rep (over w M) m

-- FRAMES
pub ctx_frame : (N O : ℕ → Val) (l : ℕ) (p : Path l) → ((x : ℕ) → 1 ≤ around l p x → N x ≡ O x) → Ctx N l p → Ctx O l p
ctx_frame N O l (top r) g h = tt
ctx_frame N O l (frame k c pre post p) g h = (
  chain_frame (Entry N (suc l)) (Entry O (suc l)) (cnt (suc l)) N O (λ k b t. entry_frame N O (suc l) k b t) k pre (λ x i. g x (omega arith)) h.0,
  chain_frame (Entry N (suc l)) (Entry O (suc l)) (cnt (suc l)) N O (λ k b t. entry_frame N O (suc l) k b t) (hi (suc l) p) post (λ x i. g x (omega arith)) h.1,
  h.2,
  h.3,
  ctx_frame N O (suc l) p (λ x i. g x (omega arith)) h.4,
)

pub stored_frame : (N O : ℕ → Val) (l : ℕ) (p : Path l) → ((x : ℕ) → 1 ≤ around l p x → N x ≡ O x) → Stored N l p → Stored O l p
stored_frame N O l (top r) g h = tt
stored_frame N O l (frame k c pre post p) g h =
    (sym (g (nm (suc l) p) (omega (arith, one_same (nm (suc l) p)))) ∙ h.0, h.1, h.2, stored_frame N O (suc l) p (λ x i. g x (omega arith)) h.3)

pub above_frame : (N O : ℕ → Val) (l : ℕ) (p : Path l) → ((x : ℕ) → 1 ≤ around l p x → N x ≡ O x) → Above N l p → Above O l p
above_frame N O l (top r) g h = tt
above_frame N O l (frame k c pre post p) g h = stored_frame N O (suc l) p (λ x i. g x (omega arith)) h

pub stored_above : (N : ℕ → Val) (l : ℕ) (p : Path l) → Stored N l p → Above N l p
stored_above N l (top r) h = tt
stored_above N l (frame k c pre post p) h = h.3

pub mark_le : (f v : Val) (n : ℕ) → Mark f v n → n ≤ 1
mark_le f v n (inl h) = omega (arith, h.0)
mark_le f v n (inr h) = omega (arith, h.0)

pub mark_num : (f v : Val) (n j : ℕ) → n ≡ j → Mark f v n → Mark f v j
mark_num f v n j e h = subst (λ i. Mark f v i) e h

pub mark_node : (f v u : Val) (n : ℕ) → 1 ≤ n → Mark f v n → Mark f u n
mark_node f v u n i (inl h) = inl h
mark_node f v u n i (inr h) = absurd (omega (arith, h.0))

pub mark_free : (f v : Val) (n : ℕ) → f ≡ taken false → Mark f v n → (n ≡ 0) × (v ≡ free)
mark_free f v n e (inl h) = absurd (true≢false (sym (ap is_taken h.1) ∙ ap is_taken e))
mark_free f v n e (inr h) = (h.0, h.2)

-- memories that differ at one node agree elsewhere
pub apart : (U : Obj → Val) (n : ℕ) (v : Val) (f : ℕ → ℕ) → f n ≡ 0 → (x : ℕ) → 1 ≤ f x → U (node x) ≡ with_value (node n) v U (node x)
apart U n v f z x i = sym (sel_other n x v (U (node x)) (λ e. absurd (omega (arith, subst (λ y. 1 ≤ f y) e i, z))))
