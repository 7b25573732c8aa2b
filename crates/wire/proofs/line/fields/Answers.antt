use Rattle.std.proofs.Common.{refl}
use Rattle.wire.specs.declared.form.Form.TheVariants as forms
use Rattle.wire.proofs.FormLemmas.{row_unread}
use Rattle.wire.proofs.line.fields.Goals as goal

pub returns-in_err-count-in-Limits : goal.returns-in_err-count-in-Limits
returns-in_err-count-in-Limits c = row_unread forms.Limits c.args.form c.args.rest.now c.from_residual.result c.in-Limits.is
    (λ fields. refl) c.in_err-count-in-Limits.ensures c.from_residual.ensures

pub returns-in_err-id-in-Add : goal.returns-in_err-id-in-Add
returns-in_err-id-in-Add c = row_unread forms.Add c.args.form c.args.rest.now c.from_residual-in_err-id-in-Add.result c.in-Add.is
    (λ fields. refl) c.in_err-id-in-Add.ensures c.from_residual-in_err-id-in-Add.ensures

pub returns-in_err-parent-in-Dep : goal.returns-in_err-parent-in-Dep
returns-in_err-parent-in-Dep c = row_unread forms.Dep c.args.form c.args.rest.now c.from_residual-in_err-parent-in-Dep.result c.in-Dep.is
    (λ fields. refl) c.in_err-parent-in-Dep.ensures c.from_residual-in_err-parent-in-Dep.ensures

pub returns-in_err-id-in-Fee : goal.returns-in_err-id-in-Fee
returns-in_err-id-in-Fee c = row_unread forms.Fee c.args.form c.args.rest.now c.from_residual-in_err-id-in-Fee.result c.in-Fee.is
    (λ fields. refl) c.in_err-id-in-Fee.ensures c.from_residual-in_err-id-in-Fee.ensures

pub returns-in_err-id-in-Cluster : goal.returns-in_err-id-in-Cluster
returns-in_err-id-in-Cluster c = row_unread forms.Cluster c.args.form c.args.rest.now c.from_residual-in_err-id-in-Cluster.result c.in-Cluster.is
    (λ fields. refl) c.in_err-id-in-Cluster.ensures c.from_residual-in_err-id-in-Cluster.ensures

pub returns-in_err-id-in-Ancestors : goal.returns-in_err-id-in-Ancestors
returns-in_err-id-in-Ancestors c = row_unread forms.Ancestors c.args.form c.args.rest.now c.from_residual-in_err-id-in-Ancestors.result c.in-Ancestors.is
    (λ fields. refl) c.in_err-id-in-Ancestors.ensures c.from_residual-in_err-id-in-Ancestors.ensures

pub returns-in_err-id-in-Descendants : goal.returns-in_err-id-in-Descendants
returns-in_err-id-in-Descendants c = row_unread forms.Descendants c.args.form c.args.rest.now c.from_residual-in_err-id-in-Descendants.result
    c.in-Descendants.is (λ fields. refl) c.in_err-id-in-Descendants.ensures c.from_residual-in_err-id-in-Descendants.ensures

pub returns-in_err-a-in-Before : goal.returns-in_err-a-in-Before
returns-in_err-a-in-Before c = row_unread forms.Before c.args.form c.args.rest.now c.from_residual-in_err-a-in-Before.result c.in-Before.is
    (λ fields. refl) c.in_err-a-in-Before.ensures c.from_residual-in_err-a-in-Before.ensures
