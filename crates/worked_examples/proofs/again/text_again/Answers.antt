use Rattle.std.proofs.Common.{rules, ap, ℕ, List, Some, refl}
use Rattle.byte_streams.specs.Streams.{only_held}
use Rattle.worked_examples.proofs.RunAgain.{written_again}
use Rattle.worked_examples.proofs.again.text_again.Goals as goal

pub returns : goal.returns
returns g c =
    record {
      again = written_again c.args.bytes.now c.in_ok-text.text.items _ c.in_ok-report.report _ _ (only_held (Some c.new-again.result.items))
          (only_held (Some c.run_plain.new.sink.items)) c.in_ok-text.ensures.text (ap (λ (l : List ℕ). Some l) c.as_slice-source.ensures.value) (0, refl, refl)
          (ap (λ (l : List ℕ). Some l) (search rules)) refl c.in_ok-report.ensures.ran c.in_ok-report.ensures.itself;
    }
