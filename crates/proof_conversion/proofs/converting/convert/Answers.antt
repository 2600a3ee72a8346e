use Rattle.std.proofs.Common.{List, ℕ, ◌++◌, refl, sym, ap, ◌∙◌, subst, inl, inr}
use Rattle.smt_text.specs.Framing.{Held}
use Rattle.proof_text.specs.declared.line.Format.TheVariants.{One}
use Rattle.proof_conversion.specs.Headers.{header_of}
use Rattle.proof_conversion.specs.Conversions.{HasHeader}
use Rattle.proof_conversion.proofs.Written.{is_converted, read_lengths, held_behind, header_front, held_is}
use Rattle.proof_conversion.proofs.converting.convert.Goals as goal

pub returns-in_default : goal.returns-in_default
returns-in_default c =
    let fed = c.in_ok-feed.ensures.ok ∙ ap (λ (x : Held). x.bytes ++ c.args.text.now) c.new-reader.ensures in
    let none = rw c.in_default.is at c.in_ok-numbers.ensures in
    inl (λ rest h. none rest (subst (λ (x : List ℕ). HasHeader x rest) (sym fed) h), refl)

pub scan_parts-requires : goal.scan_parts-requires
scan_parts-requires c =
    let fed = c.in_ok-feed.ensures.ok ∙ ap (λ (x : Held). x.bytes ++ c.args.text.now) c.new-reader.ensures in
    let h = rw c.in-Some.is at c.in_ok-numbers.ensures in
    record {
      held =
          held_is c.read_header.new.reader c.split_at.result.1.now h.1
          (held_behind c.args.text.now c.feed.new.self.bytes c.split_at.result.1.now c.read_header.new.reader.bytes (header_of One c.in-Some.numbers) c.held.result fed h.2 c.split_at.ensures.back c.held.ensures);
    }

pub write-requires : goal.write-requires
write-requires c = let r = rw c.in-Ok.is at c.in_ok-scan.ensures in (r.1, r.3, read_lengths c.split_at.result.1.now r.0 r.1 r.2)

pub returns-in-Ok : goal.returns-in-Ok
returns-in-Ok c =
    let fed = c.in_ok-feed.ensures.ok ∙ ap (λ (x : Held). x.bytes ++ c.args.text.now) c.new-reader.ensures in
    let h = rw c.in-Some.is at c.in_ok-numbers.ensures in
    let r = rw c.in-Ok.is at c.in_ok-scan.ensures in
    is_converted c.args.text.now c.split_at.result.1.now c.in_ok-converted-in-Ok.converted.proof c.in-Some.numbers r.0 r.1 c.in_ok-converted-in-Ok.converted.records h.0
    (header_front c.args.text.now c.feed.new.self.bytes c.split_at.result.1.now c.read_header.new.reader.bytes (header_of One c.in-Some.numbers) c.held.result fed h.2 c.split_at.ensures.back c.held.ensures)
    r.2 (c.in_ok-converted-in-Ok.ensures r.1 r.3)

pub returns : goal.returns
returns c =
    let fed = c.in_ok-feed.ensures.ok ∙ ap (λ (x : Held). x.bytes ++ c.args.text.now) c.new-reader.ensures in
    let h = rw c.in-Some.is at c.in_ok-numbers.ensures in
    let f = rw c.in-Err.is at c.in_ok-scan.ensures in
    inr (
      c.split_at.result.1.now,
      record {
        numbers = c.in-Some.numbers;
        within = h.0;
        begins = header_front c.args.text.now c.feed.new.self.bytes c.split_at.result.1.now c.read_header.new.reader.bytes (header_of One c.in-Some.numbers) c.held.result fed h.2 c.split_at.ensures.back c.held.ensures;
      },
      f,
    )
