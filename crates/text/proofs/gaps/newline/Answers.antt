use Rattle.text.proofs.Trivia.{feed_found, crlf_found, return_found}
use Rattle.text.proofs.gaps.newline.Goals as goal

pub returns-in-Some : goal.returns-in-Some
returns-in-Some c = crlf_found c.args.text.now c.in-Some.rest.now c.in-Some.ensures.0 c.in-Some.ensures.1

pub returns-in-Ok : goal.returns-in-Ok
returns-in-Ok c = feed_found c.args.text.now c.in-Ok.rest.now c.in-Ok.ensures

pub returns : goal.returns
returns c = return_found c.args.text.now c.in_ok-rest.rest.now c.in_ok-rest.ensures c.in_default.ensures
