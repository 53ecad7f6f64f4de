-- Laws of texts put one after the other. Assumes nothing.
use Rattle.std.proofs.Common.{◌≡◌, ℕ, ◌≤◌, List, [], ◌++◌, refl, sym, ap, ◌∙◌, append_assoc, append-nil, arith, length, length-append}
use Rattle.text.specs.declared.writer.Writer.{Writer}
use Rattle.text.specs.Put.{put_at}
use Rattle.text.specs.Writing.{Room, Puts}
use Rattle.text.proofs.PutLaws.{put_none, put_put}

pub puts_none : (x : Writer) → x.written ≤ length x.buffer.now → Puts [] x x
puts_none x h = record { room = omega arith; length_kept = refl; same_buffer = refl; written = omega arith; bytes = sym (put_none x.buffer.now x.written) }

-- two texts put one after the other are put at once
pub puts_both : {a b : List ℕ} {x y z : Writer} → Puts a x y → Puts b y z → Puts (a ++ b) x z
puts_both {a} {b} {x} {y} {z} p q = record {
  room = omega (arith, q.room, p.written, p.length_kept, length-append a b);
  length_kept = q.length_kept ∙ p.length_kept;
  same_buffer = q.same_buffer ∙ p.same_buffer;
  written = omega (arith, p.written, q.written, length-append a b);
  bytes = q.bytes ∙ rw (p.bytes, p.written) (put_put x.buffer.now x.written a b p.room);
}

-- what a buffer holds that a writer was made on, after a text was put; `name` is the buffer's
pub buffer_put : {text d d₁ : List ℕ} {x y : Writer} {name : ℕ} → x.buffer.ghost_name ≡ name → x.buffer.now ≡ d → x.written ≡ 0 → Puts text x y
    → (name ≡ y.buffer.ghost_name → d₁ ≡ y.buffer.now) → d₁ ≡ put_at d 0 text
buffer_put {text} {d} {d₁} {x} {y} n b z p e = e (sym n ∙ sym p.same_buffer) ∙ rw (b, z) at p.bytes

-- ---- a text put in parts: the whole is what was put and the rest

pub record Putting (whole rest : List ℕ) (x y : Writer) : Type 0 where
  pub front : List ℕ
  pub puts : Puts front x y
  pub parts : whole ≡ front ++ rest

pub putting_none : {whole : List ℕ} {x : Writer} → Room whole x → Putting whole whole x x
putting_none {whole} {x} h = record { front = []; puts = puts_none x (omega arith); parts = refl }

pub putting_more : (a rest : List ℕ) {whole : List ℕ} {x y z : Writer} → Putting whole (a ++ rest) x y → Puts a y z → Putting whole rest x z
putting_more a rest p q = record { front = p.front ++ a; puts = puts_both p.puts q; parts = p.parts ∙ sym (append_assoc p.front a rest) }

pub putting_room : (a rest : List ℕ) {whole : List ℕ} {x y : Writer} → Room whole x → Putting whole (a ++ rest) x y → Room a y
putting_room a rest h p = omega (arith, h, p.puts.written, p.puts.length_kept, ap length p.parts, length-append p.front (a ++ rest), length-append a rest)

pub putting_all : {whole : List ℕ} {x y : Writer} → Putting whole [] x y → Puts whole x y
putting_all {whole} {x} {y} p = let e : whole ≡ p.front = p.parts ∙ append-nil p.front in rw e p.puts

-- ---- a text in two parts

module _ (a b : List ℕ) (x : Writer) {whole : List ℕ} (e : whole ≡ a ++ b) where
  pub first_room : Room whole x → Room a x
  first_room h = omega (arith, h, ap length e, length-append a b)

  pub next_room : (y : Writer) → Room whole x → Puts a x y → Room b y
  next_room y h p = omega (arith, h, p.written, p.length_kept, ap length e, length-append a b)

  pub both_put : {y z : Writer} → Puts a x y → Puts b y z → Puts whole x z
  both_put p q = rw e (puts_both p q)
