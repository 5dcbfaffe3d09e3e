-- One name that opens every definition that a call of the list computes through.
use Rattle.meaning.proofs.Opened as meaning
use Rattle.answers.specs.Same.{bytes, hex, record?, same_bytes, same_result, as_made, one_nan, one_nans, one_nans_in, written_again, same_but_nan, meets, agrees, wrong}

unfoldable pub opened : Unit {0}
unfolding meaning.opened bytes hex record? same_bytes same_result as_made one_nan one_nans one_nans_in written_again same_but_nan meets agrees wrong
opened = tt
