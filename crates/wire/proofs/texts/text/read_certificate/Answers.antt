use Rattle.wire.proofs.CertificateLemmas.{cut_text, cut_types, cut_amounts, cut_syntax}
use Rattle.wire.proofs.texts.text.read_certificate.Goals as goal

pub returns-clause-text : goal.returns-clause-text
returns-clause-text c = cut_text c.args.bytes.now c.read_lines.result c.read_lines.ensures

pub returns-clause-types : goal.returns-clause-types
returns-clause-types c = cut_types c.args.bytes.now c.read_lines.result c.read_lines.ensures

pub returns-clause-amounts : goal.returns-clause-amounts
returns-clause-amounts c small = cut_amounts c.args.bytes.now c.read_lines.result small c.read_lines.ensures

pub returns-clause-syntax : goal.returns-clause-syntax
returns-clause-syntax c = cut_syntax c.args.bytes.now c.read_lines.result c.read_lines.ensures
