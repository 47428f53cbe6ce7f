-- The map's operations on pairs of which a part is at hand, and where the pairs of a tree lie.
use Rattle.std.specs.Prelude.{◌≡◌, refl, List, [], ◌∷◌, ◌++◌, ℕ, zero, suc, ◌+◌, ◌<◌, ◌≤◌, length}
use Rattle.std.proofs.Common.{ap, ◌∙◌, arith}
use Rattle.std.proofs.Math.Option.{none, some}
use Rattle.std.proofs.Math.Decide.{ℕ_discrete, dec_lt}
use Rattle.base.specs.Test.{ifd}
use Rattle.base.proofs.Laws.Test.{ifd_yes, ifd_no}
use Rattle.operations.specs.Object.{Val}
use Rattle.operations.specs.Map.{Map, look, set_key, remove_key}
use Rattle.operations.specs.Entry.{first_key_or}
use Rattle.operations.specs.Chain.{Chain, gather, ren}
use Rattle.operations.proofs.Laws.Chain.{chain_le}
use Rattle.operations.proofs.Laws.Picked.{picked}
use Rattle.operations.specs.Tree.{Slot, word, pairs, Entry}
use Rattle.operations.proofs.Laws.Focus.{entry_rise, Path, top, frame, lo, hi, left, right, Ctx}
use Rattle.operations.proofs.Laws.Moves.{starts_le}

abbrev pub Keys : (ℕ → Type 0) → Map → Type 0
Keys Q [] = Unit {0}
Keys Q (e ∷ m) = Q e.0 × Keys Q m

pub keys_app : (Q : ℕ → Type 0) (a b : Map) → Keys Q a → Keys Q b → Keys Q (a ++ b)
keys_app Q [] b h g = g
keys_app Q (e ∷ a) b h g = (h.0, keys_app Q a b h.1 g)

pub keys_map : (Q R : ℕ → Type 0) → ((x : ℕ) → Q x → R x) → (a : Map) → Keys Q a → Keys R a
keys_map Q R f [] h = tt
keys_map Q R f (e ∷ a) h = (f e.0 h.0, keys_map Q R f a h.1)

abbrev pub Within : ℕ → ℕ → ℕ → Type 0
Within a b x = (a ≤ x) × (x < b)

chain_in : {A : Type 0} (P : ℕ → ℕ → A → Type 0) (f : ℕ → A → Map) → ((k b : ℕ) (s : A) → P k b s → k < b)
    → ((k b : ℕ) (s : A) → P k b s → Keys (Within k b) (f k s)) → (b : ℕ) (es : List (ℕ × A)) → Chain P b es → Keys (Within (first_key_or es b) b) (gather f es)
chain_in P f r g b [] h = tt
chain_in P f r g b (e ∷ es) h =
    let i = r e.0 (first_key_or es b) e.1 h.0 in
    let j = chain_le P r b es h.1 in
    keys_app (Within e.0 b) (f e.0 e.1) (gather f es)
    (keys_map (Within e.0 (first_key_or es b)) (Within e.0 b) (λ x q. omega (arith, q, j)) (f e.0 e.1) (g e.0 (first_key_or es b) e.1 h.0))
    (keys_map (Within (first_key_or es b) b) (Within e.0 b) (λ x q. omega (arith, q, i)) (gather f es) (chain_in P f r g b es h.1))

pub pairs_in : (N : ℕ → Val) (l k b : ℕ) (s : Slot l) → Entry N l k b s → Keys (Within k b) (pairs l k s)
pairs_in N zero k b s h = (omega (arith, h), tt)
pairs_in N (suc l) k b s h =
    keys_map (Within (first_key_or s.1 b) b) (Within k b) (λ x q. omega (arith, q, starts_le l k (first_key_or s.1 b) h.from)) (gather (pairs l) s.1)
    (chain_in (Entry N l) (pairs l) (entry_rise N l) (λ k b t. pairs_in N l k b t) b s.1 h.segs)

pub part_in : (N : ℕ → Val) (l b : ℕ) (es : List (ℕ × Slot l)) → Chain (Entry N l) b es → Keys (Within (first_key_or es b) b) (gather (pairs l) es)
part_in N l b es h = chain_in (Entry N l) (pairs l) (entry_rise N l) (λ k b t. pairs_in N l k b t) b es h

pub left_lt : (N : ℕ → Val) (l : ℕ) (p : Path l) → Ctx N l p → Keys (λ x. x < lo l p) (left l p)
left_lt N l (top r) h = tt
left_lt N l (frame k c pre post p) h =
    let i = chain_le (Entry N (suc l)) (entry_rise N (suc l)) k pre h.0 in
    keys_app (λ x. x < k) (left (suc l) p) (gather (pairs (suc l)) pre)
    (keys_map (λ x. x < lo (suc l) p) (λ x. x < k) (λ x q. omega (arith, q, i, h.2)) (left (suc l) p) (left_lt N (suc l) p h.4))
    (keys_map (Within (first_key_or pre k) k) (λ x. x < k) (λ x q. q.1) (gather (pairs (suc l)) pre) (part_in N (suc l) k pre h.0))

pub right_ge : (N : ℕ → Val) (l : ℕ) (p : Path l) → Ctx N l p → Keys (λ x. hi l p ≤ x) (right l p)
right_ge N l (top r) h = tt
right_ge N l (frame k c pre post p) h =
    let b = hi (suc l) p in
    let i = chain_le (Entry N (suc l)) (entry_rise N (suc l)) b post h.1 in
    keys_app (λ x. first_key_or post b ≤ x) (gather (pairs (suc l)) post) (right (suc l) p)
    (keys_map (Within (first_key_or post b) b) (λ x. first_key_or post b ≤ x) (λ x q. q.0) (gather (pairs (suc l)) post) (part_in N (suc l) b post h.1))
    (keys_map (λ x. b ≤ x) (λ x. first_key_or post b ≤ x) (λ x q. omega (arith, q, i)) (right (suc l) p) (right_ge N (suc l) p h.4))

-- a leaf's entries are its pairs
pub leaf_pairs : (es : List (ℕ × ℕ)) → gather (pairs zero) es ≡ es
leaf_pairs [] = refl
leaf_pairs (e ∷ es) = ap (λ r. e ∷ r) (leaf_pairs es)

pub leaf_words : (es : List (ℕ × ℕ)) → ren (word zero) es ≡ es
leaf_words [] = refl
leaf_words (e ∷ es) = ap (λ r. e ∷ r) (leaf_words es)

-- nothing is picked where no key is as P says
pub picked_none : {P : ℕ → Type 0} (d : (x : ℕ) → Dec (P x)) (a : Map) → Keys (λ x. ¬ P x) a → picked d a ≡ []
picked_none d [] h = refl
picked_none d (e ∷ a) h = ifd_no (d e.0) (e ∷ picked d a) (picked d a) h.0 ∙ picked_none d a h.1

-- LAWS
module _ (key : ℕ) where
  abbrev Lt : ℕ → Type 0
  Lt x = x < key

  abbrev Gt : ℕ → Type 0
  Gt x = key < x

  look_skip : (a m : Map) → Keys Lt a → look key (a ++ m) ≡ look key m
  look_skip [] m h = refl
  look_skip (e ∷ a) m h = ifd_no (ℕ_discrete e.0 key) (some e.1) (look key (a ++ m)) (λ q. absurd (omega (arith, h.0, q))) ∙ look_skip a m h.1

  look_none : (b : Map) → Keys Gt b → look key b ≡ none
  look_none [] h = refl
  look_none (e ∷ b) h = ifd_no (ℕ_discrete e.0 key) (some e.1) (look key b) (λ q. absurd (omega (arith, h.0, q))) ∙ look_none b h.1

  look_end : (m b : Map) → Keys Gt b → look key (m ++ b) ≡ look key m
  look_end [] b h = look_none b h
  look_end (e ∷ m) b h = ap (λ r. ifd (ℕ_discrete e.0 key) (some e.1) r) (look_end m b h)

  pub look_mid : (a m b : Map) → Keys Lt a → Keys Gt b → look key (a ++ (m ++ b)) ≡ look key m
  look_mid a m b h g = look_skip a (m ++ b) h ∙ look_end m b g

  put_skip : (v : ℕ) (a m : Map) → Keys Lt a → set_key key v (a ++ m) ≡ a ++ set_key key v m
  put_skip v [] m h = refl
  put_skip v (e ∷ a) m h =
      ifd_yes (dec_lt e.0 key) (e ∷ set_key key v (a ++ m)) (ifd (ℕ_discrete e.0 key) ((key, v) ∷ (a ++ m)) ((key, v) ∷ e ∷ (a ++ m))) h.0
      ∙ ap (λ r. e ∷ r) (put_skip v a m h.1)

  put_none : (v : ℕ) (b : Map) → Keys Gt b → set_key key v b ≡ (key, v) ∷ b
  put_none v [] h = refl
  put_none v (e ∷ b) h =
      ifd_no (dec_lt e.0 key) (e ∷ set_key key v b) (ifd (ℕ_discrete e.0 key) ((key, v) ∷ b) ((key, v) ∷ e ∷ b)) (λ q. absurd (omega (arith, h.0, q)))
      ∙ ifd_no (ℕ_discrete e.0 key) ((key, v) ∷ b) ((key, v) ∷ e ∷ b) (λ q. absurd (omega (arith, h.0, q)))

  put_end : (v : ℕ) (m b : Map) → Keys Gt b → set_key key v (m ++ b) ≡ set_key key v m ++ b
  put_end v [] b h = put_none v b h
  put_end v (e ∷ m) b h = go (dec_lt e.0 key) (ℕ_discrete e.0 key) (put_end v m b h)
    where
      go : {P Q : Type 0} (d : Dec P) (c : Dec Q) → set_key key v (m ++ b) ≡ set_key key v m ++ b
          → ifd d (e ∷ set_key key v (m ++ b)) (ifd c ((key, v) ∷ (m ++ b)) ((key, v) ∷ e ∷ (m ++ b)))
          ≡ ifd d (e ∷ set_key key v m) (ifd c ((key, v) ∷ m) ((key, v) ∷ e ∷ m)) ++ b
      go (yes p) c r = ap (λ z. e ∷ z) r
      go (no p) (yes q) r = refl
      go (no p) (no q) r = refl

  pub put_mid : (v : ℕ) (a m b : Map) → Keys Lt a → Keys Gt b → set_key key v (a ++ (m ++ b)) ≡ a ++ (set_key key v m ++ b)
  put_mid v a m b h g = put_skip v a (m ++ b) h ∙ ap (λ r. a ++ r) (put_end v m b g)

  del_skip : (a m : Map) → Keys Lt a → remove_key key (a ++ m) ≡ a ++ remove_key key m
  del_skip [] m h = refl
  del_skip (e ∷ a) m h =
      ifd_no (ℕ_discrete e.0 key) (a ++ m) (e ∷ remove_key key (a ++ m)) (λ q. absurd (omega (arith, h.0, q))) ∙ ap (λ r. e ∷ r) (del_skip a m h.1)

  del_none : (b : Map) → Keys Gt b → remove_key key b ≡ b
  del_none [] h = refl
  del_none (e ∷ b) h = ifd_no (ℕ_discrete e.0 key) b (e ∷ remove_key key b) (λ q. absurd (omega (arith, h.0, q))) ∙ ap (λ r. e ∷ r) (del_none b h.1)

  del_end : (m b : Map) → Keys Gt b → remove_key key (m ++ b) ≡ remove_key key m ++ b
  del_end [] b h = del_none b h
  del_end (e ∷ m) b h = go (ℕ_discrete e.0 key) (del_end m b h)
    where
      go : {P : Type 0} (d : Dec P) → remove_key key (m ++ b) ≡ remove_key key m ++ b → ifd d (m ++ b) (e ∷ remove_key key (m ++ b)) ≡ ifd d m (e ∷ remove_key key m) ++ b
      go (yes p) r = refl
      go (no p) r = ap (λ z. e ∷ z) r

  pub del_mid : (a m b : Map) → Keys Lt a → Keys Gt b → remove_key key (a ++ (m ++ b)) ≡ a ++ (remove_key key m ++ b)
  del_mid a m b h g = del_skip a (m ++ b) h ∙ ap (λ r. a ++ r) (del_end m b g)

  -- a key that is not there is not deleted
  pub del_absent : (m : Map) → look key m ≡ none → remove_key key m ≡ m
  del_absent [] h = refl
  del_absent (e ∷ m) h = go (ℕ_discrete e.0 key) (del_absent m) h
    where
      go : {P : Type 0} (d : Dec P) → (look key m ≡ none → remove_key key m ≡ m) → ifd d (some e.1) (look key m) ≡ none → ifd d m (e ∷ remove_key key m) ≡ e ∷ m
      go (yes p) r q = cc
      go (no p) r q = ap (λ z. e ∷ z) (r q)

  -- a leaf after put or del
  abbrev Up : ℕ → ℕ → ℕ → Type 0
  Up k c v = k < c

  put_nxt : (v x b : ℕ) (es : Map) → x < key → x < first_key_or es b → x < first_key_or (set_key key v es) b
  put_nxt v x b [] h g = h
  put_nxt v x b (e ∷ es) h g = go (dec_lt e.0 key) (ℕ_discrete e.0 key)
    where
      go : {P Q : Type 0} (d : Dec P) (c : Dec Q) → x < first_key_or (ifd d (e ∷ set_key key v es) (ifd c ((key, v) ∷ es) ((key, v) ∷ e ∷ es))) b
      go (yes p) c = g
      go (no p) (yes q) = h
      go (no p) (no q) = h

  pub put_from : (v k b : ℕ) (es : Map) → k ≤ key → k ≤ first_key_or es b → k ≤ first_key_or (set_key key v es) b
  put_from v k b [] h g = h
  put_from v k b (e ∷ es) h g = go (dec_lt e.0 key) (ℕ_discrete e.0 key)
    where
      go : {P Q : Type 0} (d : Dec P) (c : Dec Q) → k ≤ first_key_or (ifd d (e ∷ set_key key v es) (ifd c ((key, v) ∷ es) ((key, v) ∷ e ∷ es))) b
      go (yes p) c = g
      go (no p) (yes q) = h
      go (no p) (no q) = h

  pub put_chain : (v b : ℕ) (es : Map) → key < b → Chain Up b es → Chain Up b (set_key key v es)
  put_chain v b [] h g = (h, tt)
  put_chain v b (e ∷ es) h g = go (dec_lt e.0 key) (ℕ_discrete e.0 key) (put_chain v b es h g.1)
    where
      go : (d : Dec (e.0 < key)) (c : Dec (e.0 ≡ key)) → Chain Up b (set_key key v es)
          → Chain Up b (ifd d (e ∷ set_key key v es) (ifd c ((key, v) ∷ es) ((key, v) ∷ e ∷ es)))
      go (yes p) c r = (put_nxt v e.0 b es p g.0, r)
      go (no p) (yes q) r = (omega (arith, g.0, q), g.1)
      go (no p) (no q) r = (omega (arith, p, q), g)

  pub put_len : (v : ℕ) (es : Map) → (length es ≤ length (set_key key v es)) × (length (set_key key v es) ≤ suc (length es)) × (1 ≤ length (set_key key v es))
  put_len v [] = omega arith
  put_len v (e ∷ es) = go (dec_lt e.0 key) (ℕ_discrete e.0 key) (put_len v es)
    where
      go : {P Q : Type 0} (d : Dec P) (c : Dec Q) → (length es ≤ length (set_key key v es)) × (length (set_key key v es) ≤ suc (length es)) × (1 ≤ length (set_key key v es))
          → (suc (length es) ≤ length (ifd d (e ∷ set_key key v es) (ifd c ((key, v) ∷ es) ((key, v) ∷ e ∷ es))))
          × (length (ifd d (e ∷ set_key key v es) (ifd c ((key, v) ∷ es) ((key, v) ∷ e ∷ es))) ≤ suc (suc (length es)))
          × (1 ≤ length (ifd d (e ∷ set_key key v es) (ifd c ((key, v) ∷ es) ((key, v) ∷ e ∷ es))))
      go (yes p) c r = omega (arith, r)
      go (no p) (yes q) r = omega arith
      go (no p) (no q) r = omega arith

  pub del_from : (k b : ℕ) (es : Map) → Chain Up b es → k ≤ first_key_or es b → k ≤ first_key_or (remove_key key es) b
  del_from k b [] g h = h
  del_from k b (e ∷ es) g h = go (ℕ_discrete e.0 key)
    where
      go : {P : Type 0} (d : Dec P) → k ≤ first_key_or (ifd d es (e ∷ remove_key key es)) b
      go (yes p) = omega (arith, h, g.0)
      go (no p) = h

  pub del_chain : (b : ℕ) (es : Map) → Chain Up b es → Chain Up b (remove_key key es)
  del_chain b [] g = tt
  del_chain b (e ∷ es) g = go (ℕ_discrete e.0 key) (del_chain b es g.1)
    where
      go : {P : Type 0} (d : Dec P) → Chain Up b (remove_key key es) → Chain Up b (ifd d es (e ∷ remove_key key es))
      go (yes p) r = g.1
      go (no p) r = (del_from (suc e.0) b es g.1 g.0, r)

  pub del_len : (es : Map) → (length (remove_key key es) ≤ length es) × (length es ≤ suc (length (remove_key key es)))
  del_len [] = omega arith
  del_len (e ∷ es) = go (ℕ_discrete e.0 key) (del_len es)
    where
      go : {P : Type 0} (d : Dec P) → (length (remove_key key es) ≤ length es) × (length es ≤ suc (length (remove_key key es)))
          → (length (ifd d es (e ∷ remove_key key es)) ≤ suc (length es)) × (suc (length es) ≤ suc (length (ifd d es (e ∷ remove_key key es))))
      go (yes p) r = omega arith
      go (no p) r = omega (arith, r)
