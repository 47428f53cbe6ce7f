-- Laws of words over bytes. A change of a word is `set` on the view, and a part of the bytes is a part of the view.
use Rattle.std.specs.Prelude.{◌≡◌, refl, ℕ, zero, suc, ◌+◌, ◌*◌, ◌/◌, ◌%◌, ◌<◌, ◌-◌, ◌^◌, ◌≤◌, min, get_or, take, drop, set, ◌≢◌}
use Rattle.std.proofs.Math.Path.{sym, ap, ap₂}
use Rattle.std.proofs.Common.{◌∙◌, subst, length-append, length-take, length-drop, take-append-drop, length-take-le, take_all, take_at, drop_at, drop-cons, drop-drop, get_or-drop, get_or-take, get_or-set_same, get_or-set_other, zero-add, suc-add, pow-suc, mul-suc, arith, add-one, lit<}
use mathlib.Core.List.{List, [], ◌∷◌, ◌++◌, append_assoc}
use Rattle.std.proofs.Math.ListN.{length}
use Rattle.std.proofs.lemmas.List.Edits.{sets, sets-eq}
use Rattle.std.proofs.lemmas.List.{take-append-le, drop-append-le, get_or_at, set_at}
use Rattle.std.proofs.Math.Seq.{length-sets}
use Rattle.std.proofs.Math.Nat.{add_assoc}
use Rattle.memory.specs.Word.{bytes_value, view_n, view}

-- the n lowest bytes of a number, lowest first
abbrev pub digits : ℕ → ℕ → List ℕ
digits zero v = []
digits (suc n) v = v % 256 ∷ digits n (v / 256)

-- the eight bytes from index a
abbrev pub eight : List ℕ → ℕ → List ℕ
eight s a =
    get_or s a 0 ∷ get_or s (a + 1) 0 ∷ get_or s (a + 2) 0 ∷ get_or s (a + 3) 0
    ∷ get_or s (a + 4) 0 ∷ get_or s (a + 5) 0 ∷ get_or s (a + 6) 0 ∷ get_or s (a + 7) 0 ∷ []

-- the word at index i
unfoldable pub word_at : List ℕ → ℕ → ℕ
word_at s i = bytes_value (eight s (8 * i))

-- the bytes with the word at index i replaced by v
unfoldable pub put_word : List ℕ → ℕ → ℕ → List ℕ
put_word s i v = sets s (8 * i) (digits 8 v)

-- every element is a byte
abbrev pub Bytes : List ℕ → Type 0
Bytes s = (k : ℕ) → k < length s → get_or s k 0 < 256

-- one word, 2 + 256 * 1, and three bytes behind it
pub view_sample : view (2 ∷ 1 ∷ 0 ∷ 0 ∷ 0 ∷ 0 ∷ 0 ∷ 0 ∷ 7 ∷ 8 ∷ 9 ∷ []) ≡ 258 ∷ 7 ∷ 8 ∷ 9 ∷ []
unfolding view view_n
view_sample = refl

pub digits_length : (n v : ℕ) → length (digits n v) ≡ n
digits_length zero v = refl
digits_length (suc n) v = ap suc (digits_length n (v / 256))

-- the digits of a number that fits stand for it
pub value_digits : (n v : ℕ) → v < 256 ^ n → bytes_value (digits n v) ≡ v
value_digits zero v h = omega arith
value_digits (suc n) v h =
    let p : v < 256 ^ n * 256 = rw pow-suc at h in
    rw (value_digits n (v / 256) (omega arith)) (omega arith)

nil : {A : Type 0} (x : List A) → length x ≡ 0 → x ≡ []
nil [] e = refl
nil (a ∷ x) e = absurd (let z : ◌≡◌ {A = ℕ} 0 1 = omega arith in omega arith)

view_n_append : (k n : ℕ) (x t : List ℕ) → length x ≡ 8 * k → view_n (k + n) (x ++ t) ≡ view_n k x ++ view_n n t
unfolding view_n
view_n_append zero n x t e = rw (nil x (omega arith), zero-add)
view_n_append (suc k) n x t e =
    let h : 8 ≤ length x = omega (arith, mul-suc 8 k) in
    let d : length (drop 8 x) ≡ 8 * k = rw length-drop (omega (arith, mul-suc 8 k)) in
    rw (suc-add, view_n, take-append-le 8 x t, drop-append-le 8 x t, view_n_append k n (drop 8 x) t d)

view_n_length : (n : ℕ) (s : List ℕ) → 8 * n ≤ length s → length (view_n n s) ≡ n + (length s - 8 * n)
unfolding view_n
view_n_length zero s h = omega arith
view_n_length (suc n) s h =
    let d : length (drop 8 s) ≡ length s - 8 = length-drop 8 s in
    let m : 8 * suc n ≡ 8 * n + 8 = mul-suc 8 n in
    let r : length (view_n n (drop 8 s)) ≡ n + (length (drop 8 s) - 8 * n) = view_n_length n (drop 8 s) (omega arith) in
    omega arith

-- as many words as fit, and the bytes behind them
pub view_length : (s : List ℕ) → length (view s) ≡ length s / 8 + length s % 8
unfolding view
view_length s = omega (arith, view_n_length (length s / 8) s (omega arith))

-- the law behind all parts: bytes that follow a whole number of words
pub view_append : (k : ℕ) (x t : List ℕ) → length x ≡ 8 * k → view (x ++ t) ≡ view x ++ view t
unfolding view
view_append k x t e =
    let a : length (x ++ t) / 8 ≡ k + length t / 8 = rw length-append (omega arith) in
    let b : length x / 8 ≡ k = omega arith in
    rw (a, b) (view_n_append k (length t / 8) x t e)

pub view_whole : (k : ℕ) (x : List ℕ) → length x ≡ 8 * k → length (view x) ≡ k
view_whole k x e = omega (arith, view_length x)

-- a word and what follows it
pub view_word : (y t : List ℕ) → length y ≡ 8 → view (y ++ t) ≡ bytes_value y ∷ view t
unfolding view view_n
view_word y t e =
    view_append 1 y t e
    ∙ rw (e, take_all 8 y (omega arith), nil (drop 8 y) (rw length-drop (omega arith)))

module _ (k : ℕ) (s : List ℕ) (h : 8 * k ≤ length s) where
  halves : view s ≡ view (take (8 * k) s) ++ view (drop (8 * k) s)
  halves = ap view (sym (take-append-drop (8 * k) s)) ∙ view_append k (take (8 * k) s) (drop (8 * k) s) (length-take-le (8 * k) s h)

  front_length : length (view (take (8 * k) s)) ≡ k
  front_length = view_whole k (take (8 * k) s) (length-take-le (8 * k) s h)

  pub view_take : view (take (8 * k) s) ≡ take k (view s)
  view_take = rw halves (sym (take_at (view (take (8 * k) s)) (view (drop (8 * k) s)) k front_length))

  pub view_drop : view (drop (8 * k) s) ≡ drop k (view s)
  view_drop = rw halves (sym (drop_at (view (take (8 * k) s)) (view (drop (8 * k) s)) k front_length))

  -- what a callee that was lent the part from word k says of the part, said of the whole
  pub view_part : (t : List ℕ) → view (take (8 * k) s ++ t) ≡ take k (view s) ++ view t
  view_part t = view_append k (take (8 * k) s) t (length-take-le (8 * k) s h) ∙ ap (λ (r : List ℕ). r ++ view t) view_take

-- n bytes from index a, one by one
run : ℕ → List ℕ → ℕ → List ℕ
run zero s a = []
run (suc n) s a = get_or s a 0 ∷ run n s (a + 1)

take_run : (n : ℕ) (s : List ℕ) (a : ℕ) → a + n ≤ length s → take n (drop a s) ≡ run n s a
unfolding run
take_run zero s a h = refl
take_run (suc n) s a h =
    let l : a < length s = omega arith in
    rw (drop-cons s a 0, ← add-one a) (ap (λ (r : List ℕ). get_or s a 0 ∷ r) (take_run n s (a + 1) (omega arith)))

module _ (s : List ℕ) (i : ℕ) (h : i < length s / 8) where
  low : 8 * i ≤ length s
  low = omega arith

  abbrev rest : List ℕ
  rest = drop (8 * i) s

  abbrev front : List ℕ
  front = take (8 * i) s

  more : 8 ≤ length rest
  more = rw length-drop (omega arith)

  at_word : take 8 rest ≡ eight s (8 * i)
  unfolding run
  at_word = take_run 8 s (8 * i) (omega arith) ∙ simp add_assoc

  parts : view s ≡ view front ++ (word_at s i ∷ view (drop 8 rest))
  unfolding word_at
  parts =
      ap view (sym (take-append-drop (8 * i) s))
      ∙ view_append i front rest (length-take-le (8 * i) s low)
      ∙ ap (λ (r : List ℕ). view front ++ r)
      (ap view (sym (take-append-drop 8 rest)) ∙ view_word (take 8 rest) (drop 8 rest) (length-take-le 8 rest more)
      ∙ ap (λ (y : List ℕ). bytes_value y ∷ view (drop 8 rest)) at_word)

  front_words : length (view front) ≡ i
  front_words = view_whole i front (length-take-le (8 * i) s low)

  -- a word that is read is an element of the view
  pub view_get : word_at s i ≡ get_or (view s) i 0
  view_get = sym (rw parts (get_or_at (view front) (word_at s i) (view (drop 8 rest)) 0 i front_words))

  -- a word that is written is an element of the view that is set
  pub view_put : (v : ℕ) → v < 2 ^ 64 → view (put_word s i v) ≡ set (view s) i v
  unfolding put_word
  view_put v f =
      let e : length (digits 8 v) ≡ 8 = digits_length 8 v in
      ap view (sets-eq (digits 8 v) s (8 * i) (omega arith)
      ∙ append_assoc front (digits 8 v) (drop (8 * i + 8) s))
      ∙ view_append i front _ (length-take-le (8 * i) s low)
      ∙ ap (λ (r : List ℕ). view front ++ r)
      (view_word (digits 8 v) (drop (8 * i + 8) s) e
      ∙ ap₂ (λ (a : ℕ) (r : List ℕ). a ∷ r) (value_digits 8 v f) (ap view (sym (drop-drop 8 (8 * i) s))))
      ∙ sym (rw parts (set_at (view front) (word_at s i) (view (drop 8 rest)) v i front_words))

  pub length_put : (v : ℕ) → length (put_word s i v) ≡ length s
  unfolding put_word
  length_put v = length-sets s (8 * i) (digits 8 v)

bytes_take : (n : ℕ) (s : List ℕ) → Bytes s → Bytes (take n s)
bytes_take n s b k h =
    let e : length (take n s) ≡ min n (length s) = length-take n s in
    let l : k < n = omega arith in
    rw get_or-take (b k (omega arith))

bytes_drop : (n : ℕ) (s : List ℕ) → Bytes s → Bytes (drop n s)
bytes_drop n s b k h =
    let e : length (drop n s) ≡ length s - n = length-drop n s in
    rw get_or-drop (b (n + k) (omega arith))

bytes_tail : (a : ℕ) (s : List ℕ) → Bytes (a ∷ s) → Bytes s
bytes_tail a s b k h = b (suc k) (omega arith)

value_inj : (x y : List ℕ) → length x ≡ length y → Bytes x → Bytes y → bytes_value x ≡ bytes_value y → x ≡ y
value_inj [] [] l p q e = refl
value_inj [] (b ∷ y) l p q e = absurd (omega arith)
value_inj (a ∷ x) [] l p q e = absurd (omega arith)
value_inj (a ∷ x) (b ∷ y) l p q e =
    let ha : a < 256 = p 0 (omega arith) in
    let hb : b < 256 = q 0 (omega arith) in
    let h : a ≡ b = omega arith in
    rw (h, value_inj x y (omega arith) (bytes_tail a x p) (bytes_tail b y q) (omega arith))

view_n_inj : (n : ℕ) (s t : List ℕ) → length s ≡ length t → 8 * n ≤ length s → Bytes s → Bytes t → view_n n s ≡ view_n n t → s ≡ t
unfolding view_n
view_n_inj zero s t l h p q e = e
view_n_inj (suc n) s t l h p q e =
    let m : 8 * suc n ≡ 8 * n + 8 = mul-suc 8 n in
    let ds : length (drop 8 s) ≡ length s - 8 = length-drop 8 s in
    let dt : length (drop 8 t) ≡ length t - 8 = length-drop 8 t in
    let v : bytes_value (take 8 s) ≡ bytes_value (take 8 t) = cc in
    let w : view_n n (drop 8 s) ≡ view_n n (drop 8 t) = cc in
    let a : take 8 s ≡ take 8 t =
    value_inj (take 8 s) (take 8 t) (length-take 8 s ∙ rw l (sym (length-take 8 t))) (bytes_take 8 s p) (bytes_take 8 t q) v in
    let b : drop 8 s ≡ drop 8 t =
    view_n_inj n (drop 8 s) (drop 8 t) (omega arith) (omega arith) (bytes_drop 8 s p) (bytes_drop 8 t q) w in
    sym (take-append-drop 8 s) ∙ rw (a, b) (take-append-drop 8 t)

-- the view determines the bytes
pub view_inj : (s t : List ℕ) → length s ≡ length t → Bytes s → Bytes t → view s ≡ view t → s ≡ t
unfolding view
view_inj s t l p q e = view_n_inj (length s / 8) s t l (omega arith) p q (e ∙ rw l)

value_lt : (n : ℕ) (x : List ℕ) → length x ≡ n → Bytes x → bytes_value x < 256 ^ n
value_lt zero [] l b = lit< tt
value_lt zero (a ∷ x) l b = absurd (omega arith)
value_lt (suc n) [] l b = absurd (omega arith)
value_lt (suc n) (a ∷ x) l b =
    let h : a < 256 = b 0 (omega arith) in
    rw pow-suc (omega (arith, value_lt n x (omega arith) (bytes_tail a x b)))

-- a word of the view fits 64 bits
pub view_lt : (s : List ℕ) (i : ℕ) → i < length s / 8 → Bytes s → get_or (view s) i 0 < 2 ^ 64
unfolding word_at
view_lt s i h b =
    rw (← view_get s i h)
    (subst (λ (y : List ℕ). bytes_value y < 2 ^ 64) (at_word s i h)
    (value_lt 8 (take 8 (rest s i h)) (length-take-le 8 (rest s i h) (more s i h)) (bytes_take 8 (rest s i h) (bytes_drop (8 * i) s b))))

-- the laws of single words: the one written is the one read, and others stay
module _ (s : List ℕ) (i : ℕ) (h : i < length s / 8) (v : ℕ) (f : v < 2 ^ 64) where
  still : (j : ℕ) → j < length s / 8 → j < length (put_word s i v) / 8
  still j g = omega (arith, length_put s i h v)

  pub word_same : word_at (put_word s i v) i ≡ v
  word_same =
      view_get (put_word s i v) i (still i h)
      ∙ rw (view_put s i h v f) (get_or-set_same (view s) i v 0 (omega (arith, view_length s)))

  pub word_other : (j : ℕ) → j < length s / 8 → j ≢ i → word_at (put_word s i v) j ≡ word_at s j
  word_other j g ne =
      view_get (put_word s i v) j (still j g)
      ∙ rw (view_put s i h v f) (get_or-set_other (view s) i j v 0 ne)
      ∙ sym (view_get s j g)
