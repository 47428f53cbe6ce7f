-- Laws of nodes as words: a node that was put is the node read, others stay.
use Rattle.std.specs.Prelude.{◌≡◌, List, [], ◌∷◌, ◌++◌, ◌⊎◌, ℕ, ◌+◌, ◌≤◌, length, get_or, take, drop, replicate}
use Rattle.std.proofs.Common.{sym, ◌∙◌, append-nil, arith, length-append, length-drop, take-append-drop, drop_of_length-le, take_at, drop_at, take_all, length-take-le, drop-drop, drop-cons}
use Rattle.std.proofs.Math.Path.{ap}
use Rattle.std.proofs.Math.Seq.{paste}
use Rattle.std.proofs.lemmas.List.Edits.{sets}
use Rattle.memory.proofs.Laws.Run.{run_same, run_beside}
use Rattle.nodes.specs.declared.node.Node.{Node}
use Rattle.nodes.specs.Lists.{pad}
use Rattle.nodes.proofs.Laws.Lists.{pad_full, length_pad}
use Rattle.nodes.specs.Node.{made}
use Rattle.nodes.specs.Stored.{node_of, words_of, node_at, put_node}

-- the arrays have their sizes, as in every node of the code
pub record Sized (n : Node) : Type 0 where
  pub keys : length n.keys ≡ 14
  pub slots : length n.slots ≡ 15

pub made_sized : (k l v : ℕ) (ks ss : List ℕ) → length ks ≤ 14 → length ss ≤ 15 → Sized (made k l v ks ss)
unfolding made
made_sized k l v ks ss h g = record { keys = length_pad 14 ks h; slots = length_pad 15 ss g }

pub length_words : (n : Node) → Sized n → length (words_of n) ≡ 33
unfolding words_of
length_words n h = simp (length-append, h.keys, h.slots)

pub node_words : (n : Node) → Sized n → node_of (words_of n) ≡ n
unfolding node_of words_of
node_words n h =
    let a : take 14 (n.keys ++ n.slots) ≡ n.keys = take_at n.keys n.slots 14 h.keys in
    let b : drop 14 (n.keys ++ n.slots) ≡ n.slots = drop_at n.keys n.slots 14 h.keys in
    let d : take 15 n.slots ≡ n.slots = take_all 15 n.slots (omega (arith, h.slots)) in
    λ i. record { kind = n.kind; level = n.level; version = n.version; count = n.count; keys = a i; slots = (ap (take 15) b ∙ d) i }

-- the words that a node was read from are its words
pub words_node : (ws : List ℕ) → length ws ≡ 33 → words_of (node_of ws) ≡ ws
unfolding node_of words_of
words_node ws h =
    let t : take 15 (drop 18 ws) ≡ drop 18 ws = take_all 15 (drop 18 ws) (simp length-drop (omega arith)) in
    let r : take 14 (drop 4 ws) ++ drop 18 ws ≡ drop 4 ws = rw (← drop-drop 14 4 ws) (take-append-drop 14 (drop 4 ws)) in
    rw (t, r) (sym (drop-cons ws 0 0 (omega arith) ∙ next 0 (drop-cons ws 1 0 (omega arith) ∙ next 1 (drop-cons ws 2 0 (omega arith) ∙ next 2 (drop-cons ws 3 0 (omega arith))))))
  where
    next : (i : ℕ) {l m : List ℕ} → l ≡ m → ◌≡◌ {A = List ℕ} (get_or ws i 0 ∷ l) (get_or ws i 0 ∷ m)
    next i e = ap (λ (l : List ℕ). get_or ws i 0 ∷ l) e

module _ (w : List ℕ) (b : ℕ) (n : Node) (sized : Sized n) where
  pub node_same : b + 33 ≤ length w → node_at (put_node w b n) b ≡ n
  unfolding node_at put_node
  node_same h = ap node_of (run_same (words_of n) w b 33 (length_words n sized) h) ∙ node_words n sized

  pub node_beside : (c : ℕ) → (c + 33 ≤ b) ⊎ (b + 33 ≤ c) → node_at (put_node w b n) c ≡ node_at w c
  unfolding node_at put_node
  node_beside c h = ap node_of (run_beside (words_of n) w b c 33 (rw (length_words n sized) h))

-- a node that was read has its sizes
pub node_sized : (ws : List ℕ) → length ws ≡ 33 → Sized (node_of ws)
unfolding node_of
node_sized ws h = record {
  keys = length-take-le 14 (drop 4 ws) (simp length-drop (omega arith));
  slots = length-take-le 15 (drop 18 ws) (simp length-drop (omega arith));
}

-- ---- what the functions read and write
pub holds : (l : List ℕ) (n : ℕ) → length l ≡ n → n ≤ length l
holds l n e = omega arith

pub node_built : (ws ks ss : List ℕ) → length ws ≡ 33 → ks ≡ pad 14 (take 14 (drop 4 ws)) → ss ≡ pad 15 (take 15 (drop 18 ws))
    → ◌≡◌ {A = Node} (record { kind = get_or ws 0 0; level = get_or ws 1 0; version = get_or ws 2 0; count = get_or ws 3 0; keys = ks; slots = ss }) (node_of ws)
unfolding node_of
node_built ws ks ss l p q =
    let s = node_sized ws l in
    let k : length (take 14 (drop 4 ws)) ≡ 14 = length-take-le 14 (drop 4 ws) (simp length-drop (omega arith)) in
    let t : length (take 15 (drop 18 ws)) ≡ 15 = length-take-le 15 (drop 18 ws) (simp length-drop (omega arith)) in
    rw (p, q, pad_full 14 (take 14 (drop 4 ws)) k, pad_full 15 (take 15 (drop 18 ws)) t)

pub words_built : (n : Node) (z t r : List ℕ) → length n.keys ≡ 14 → length n.slots ≡ 15
    → z ≡ n.kind ∷ n.level ∷ n.version ∷ n.count ∷ replicate 29 0
    → t ≡ paste z 4 (drop 0 n.keys) 14 → r ≡ paste t 18 (drop 0 n.slots) 15 → r ≡ words_of n
unfolding words_of
words_built n z t r lk ls p q s =
    let head : List ℕ = n.kind ∷ n.level ∷ n.version ∷ n.count ∷ n.keys in
    let k : take 14 n.keys ≡ n.keys = take_all 14 n.keys (omega arith) in
    let o : take 15 n.slots ≡ n.slots = take_all 15 n.slots (omega arith) in
    let e : t ≡ head ++ replicate 15 0 = rw (q, p, k) in
    let l : length head ≡ 18 = omega arith in
    let f : take 18 (head ++ replicate 15 0) ≡ head = take_at head (replicate 15 0) 18 l in
    let d : drop 33 (head ++ replicate 15 0) ≡ [] = drop_of_length-le (head ++ replicate 15 0) {i = 33} (simp length-append (omega arith)) in
    let a : take 18 t ≡ head = ap (take 18) e ∙ f in
    let b : drop 33 t ≡ [] = ap (drop 33) e ∙ d in
    rw (s, a, o, b) (append-nil (head ++ n.slots))

pub node_read : (w ws : List ℕ) (b : ℕ) (r : Node) → ws ≡ take 33 (drop b w) → r ≡ node_of ws → r ≡ node_at w b
unfolding node_at
node_read w ws b r p q = rw (q, p)

pub node_written : (w u ws : List ℕ) (b : ℕ) (n : Node) → ws ≡ words_of n → u ≡ sets w b ws → u ≡ put_node w b n
unfolding put_node
node_written w u ws b n p q = rw (q, p)
